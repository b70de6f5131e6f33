-- The pass that lays the rows in the order of their numbers, each with its counter.
--     NumberingTurn ..   what holds before row i of the order is laid: from `to` on there is room for the rows that are
--                        left, the table stands as it did, and what is left gives what the whole gives
--     begins, goes_on    at the start, and after one row
--     ends               at the end all rows are laid
--     asked              what laying one row asks
use Prim.Native.Nat.{ℕ, suc, ◌+◌, ◌-◌, ◌*◌, ◌≤◌, ◌<◌}
use mathlib.Core.Path.{◌≡◌, refl, sym, ap, ap₂, ◌∙◌}
use mathlib.Core.List.{List, [], ◌∷◌, ◌++◌, map}
use mathlib.Core.Bool.{Bool, true, false}
use native.Mathlib.Omega.{arith}
use native.Mathlib.Nat.{suc-mul, sub-zero}
use lib.Dec.{eqb}
use lib.IntN.{ℤ, pos}
use lib.ListN.{length, get_or, take, drop, length-drop, take-append-drop}
use lib.Seq.{drop-append-le, take-append-le, length-take-le}
use Rattle.laws.specs.Lists.{gather}
use Rattle.laws.specs.Rows.{row, laid, flat}
use Rattle.laws.proofs.Booleans.{by_cases}
use Rattle.laws.proofs.Rows.{laid_nothing, laid_more, length_laid, take_laid, length_row, length_snoc}
use Rattle.meaning.specs.Operators.{Row, Table, cell, in_group}
use Rattle.tables.specs.declared.Stand.{Stand}
use Rattle.row_order.specs.Order.{from}
use Rattle.numbering.specs.Numbered.{row_of, counter_of, counted_from, numbered_rows, Layable}
use Rattle.laws.proofs.Places.{rest_cons}
use Rattle.numbering.proofs.Sorted.{cell_row, row_end}

module _ {A : Type 0} where
  row_front : (xs : List A) (n a w : ℕ) → n ≤ length xs → a + w ≤ n → row xs a w ≡ row (take n xs) a w
  unfolding row
  row_front xs n a w h k =
      let l : length (take n xs) ≡ n = length-take-le n xs h in
      ap (λ (l : List A). take w (drop a l)) (sym (take-append-drop n xs))
      ∙ ap (take w) (drop-append-le a (take n xs) (drop n xs) (omega arith))
      ∙ take-append-le w (drop a (take n xs)) (drop n xs) (simp length-drop (omega arith))

  -- rows of two lists that begin alike
  row_kept :
      (xs ys : List A) (n a w : ℕ) → n ≤ length xs → n ≤ length ys → take n xs ≡ take n ys → a + w ≤ n →
      row xs a w ≡ row ys a w
  row_kept xs ys n a w h k e l =
      row_front xs n a w h l ∙ ap (λ (l : List A). row l a w) e ∙ sym (row_front ys n a w k l)

-- n rows from number i on, where row `last` has the counter c and stands in front of them
abbrev some : List ℤ → Stand → ℕ → List ℕ → (c last i n : ℕ) → Table
some xs s p ns c last i n = counted_from (in_group p) (row_of xs s last) c (map (row_of xs s) (row ns i n))

abbrev rest : List ℤ → Stand → ℕ → List ℕ → (c last i : ℕ) → Table
rest xs s p ns c last i = some xs s p ns c last i (s.rows - i)

abbrev whole : List ℤ → Stand → ℕ → List ℕ → Table
whole xs s p ns = numbered_rows xs s p (row ns 0 s.rows)

pub record NumberingTurn (xs : List ℤ) (s : Stand) (p : ℕ) (ns : List ℕ) (at : ℕ) (ys : List ℤ)
    (to c last i : ℕ) : Type 0
  where
    pub begun : i ≤ s.rows
    pub place : to + (s.rows - i) * (s.width + 1) ≡ at + s.rows * (s.width + 1)
    pub behind : at ≤ to
    pub long : length ys ≡ length xs
    pub kept : take at ys ≡ take at xs
    pub small : c ≤ i
    pub near : last < s.rows
    pub means : laid ys to (flat (rest xs s p ns c last i)) ≡ laid xs at (flat (whole xs s p ns))

module _ (xs : List ℤ) (s : Stand) (p : ℕ) (ns : List ℕ) (at : ℕ) where
  pub begins : 0 < s.rows → NumberingTurn xs s p ns at xs at 0 0 0
  begins h =
      record {
        begun = omega arith;
        place = ap (λ (n : ℕ). at + n * (s.width + 1)) (sub-zero s.rows);
        behind = omega arith;
        long = refl;
        kept = refl;
        small = omega arith;
        near = h;
        means = ap (λ (n : ℕ). laid xs at (flat (some xs s p ns 0 0 0 n))) (sub-zero s.rows);
      }

  pub ends :
      (ys : List ℤ) (to c last i : ℕ) → NumberingTurn xs s p ns at ys to c last i → s.rows ≤ i →
      ys ≡ laid xs at (flat (whole xs s p ns))
  unfolding row counted_from flat gather
  ends ys to c last i l h =
      let none : s.rows - i ≡ 0 = omega arith in
      sym (ap (λ (n : ℕ). laid ys to (flat (some xs s p ns c last i n))) none ∙ laid_nothing ys to) ∙ l.means

  module _ (ready : Layable xs s p ns at) (ys : List ℤ) (to c last i : ℕ)
      (l : NumberingTurn xs s p ns at ys to c last i) (more : i < s.rows) where
    next_within : get_or ns i 0 < s.rows
    next_within = ready.within i more

    turns : s.rows - i ≡ suc (s.rows - (i + 1))
    turns = omega arith

    -- there is room for one row more
    next_place : to + (s.width + 1) + (s.rows - (i + 1)) * (s.width + 1) ≡ at + s.rows * (s.width + 1)
    next_place =
        let e : suc (s.rows - (i + 1)) * (s.width + 1) ≡ (s.rows - (i + 1)) * (s.width + 1) + (s.width + 1) =
        suc-mul (s.rows - (i + 1)) (s.width + 1) in
        omega (arith, l.place, ap (λ (n : ℕ). n * (s.width + 1)) turns)

    pub row_room : to + (s.width + 1) ≤ length ys
    row_room = omega (arith, next_place, l.long, ready.room)

    -- a row of the table is below what is written, and as it was
    row_below : (k : ℕ) → k < s.rows → s.at + k * s.width + s.width ≤ at
    row_below k h = omega (arith, row_end s k h, ready.inside)

    table_kept : (k : ℕ) → k < s.rows → row ys (s.at + k * s.width) s.width ≡ row_of xs s k
    unfolding row_of
    table_kept k h =
        let m : at ≤ length xs = omega (arith, ready.room) in
        row_kept ys xs at (s.at + k * s.width) s.width (omega (arith, l.long)) m l.kept (row_below k h)

    -- p stands within the row
    cell_kept : (k : ℕ) → k < s.rows → p < s.width → cell (from ys s k) p ≡ cell (row_of xs s k) p
    unfolding from
    cell_kept k h e =
        cell_row ys (s.at + k * s.width) s.width p e ∙ ap (λ (r : Row). cell r p) (table_kept k h)

    group_kept :
        (k : ℕ) → k < s.rows → in_group p (from ys s k) (from ys s last) ≡ in_group p (row_of xs s k) (row_of xs s last)
    unfolding in_group
    group_kept k h =
        by_cases (eqb p 255)
        (λ e. rw e)
        (λ e. rw (e, cell_kept k h (ready.column e), cell_kept last l.near (ready.column e)))

    counter_small : (b : Bool) (d : ℕ) → d ≡ counter_of b c → d ≤ i + 1
    counter_small true d e = omega (arith, l.small)
    counter_small false d e = omega arith

    module _ (a k d : ℕ) (next : k ≡ get_or ns i 0) (starts : a ≡ s.at + k * s.width)
        (counts : d ≡ counter_of (in_group p (from ys s k) (from ys s last)) c) where
      k_within : k < s.rows
      k_within = rw next next_within

      d_small : d ≤ i + 1
      d_small = counter_small (in_group p (from ys s k) (from ys s last)) d counts

      pub asked : (a + s.width ≤ to) × (to + s.width < length ys) × (d ≤ 65536)
      asked =
          (omega (arith, row_below k k_within, l.behind), omega (arith, row_room), omega (arith, d_small, ready.few))

      one : Row
      one = row_of xs s k ++ (pos d ∷ [])

      length_one : length one ≡ s.width + 1
      unfolding one row_of
      length_one =
          length_snoc (row_of xs s k) (pos d) s.width
          (length_row xs (s.at + k * s.width) s.width (omega (arith, row_below k k_within, ready.room)))

      -- what is left, from row k on
      rest_one : flat (rest xs s p ns c last i) ≡ one ++ flat (rest xs s p ns d k (i + 1))
      unfolding counted_from flat gather one
      rest_one =
          let e : d ≡ counter_of (in_group p (row_of xs s k) (row_of xs s last)) c =
          counts ∙ ap (λ (b : Bool). counter_of b c) (group_kept k k_within) in
          rw (rest_cons ns i s.rows 0 more ready.numbers, ← next, ← e)

      laid_one : row ys a s.width ++ (pos d ∷ []) ≡ one
      unfolding one
      laid_one =
          ap (λ (r : Row). r ++ (pos d ∷ [])) (ap (λ (m : ℕ). row ys m s.width) starts ∙ table_kept k k_within)

      pub goes_on :
          (zs : List ℤ) → zs ≡ laid ys to (row ys a s.width ++ (pos d ∷ [])) →
          NumberingTurn xs s p ns at zs (to + (s.width + 1)) d k (i + 1)
      goes_on zs lays =
          let fit : to + length one ≤ length ys = omega (arith, length_one, row_room) in
          let after : List ℤ = flat (rest xs s p ns d k (i + 1)) in
          let now : zs ≡ laid ys to one = lays ∙ ap (laid ys to) laid_one in
          record {
            begun = omega arith;
            place = next_place;
            behind = omega (arith, l.behind);
            long = ap length now ∙ length_laid ys to one fit ∙ l.long;
            kept = ap (take at) now ∙ take_laid ys to one at l.behind (omega arith) ∙ l.kept;
            small = d_small;
            near = k_within;
            means = ap₂ (λ (l : List ℤ) (n : ℕ). laid l (to + n) after) now (sym length_one)
                ∙ laid_more ys to one after fit
                ∙ ap (laid ys to) (sym rest_one)
                ∙ l.means;
          }
