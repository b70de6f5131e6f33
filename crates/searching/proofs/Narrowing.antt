-- The part of a table that joins: rows before it and behind it hold another cell.
--     rows_split          the first rows of a table, and the others
--     narrows_whole       the whole table is such a part
--     narrows_part        so are the rows between those that are before x and those that are after it
--     narrows_cell        .. for an equal cell
use Prim.Native.Nat.{ℕ, zero, suc, ◌+◌, ◌-◌, ◌*◌, ◌≤◌, ◌<◌}
use mathlib.Core.Path.{◌≡◌, sym, ap, ap₂, ◌∙◌, subst}
use mathlib.Core.List.{List, ◌∷◌, ◌++◌, append-nil}
use mathlib.Core.Bool.{Bool, true, false}
use native.Mathlib.Omega.{arith}
use native.Mathlib.Nat.{suc-mul, zero-mul, add-mul}
use lib.IntN.{ℤ, pos}
use borrow.Author.Tests.{not-false}
use lib.ListN.{get_or}
use Rattle.cells.specs.Cell.{same, before}
use Rattle.cells.proofs.Cells.{before_other, same_sym}
use Rattle.laws.specs.Lists.{filter}
use Rattle.laws.specs.Rows.{row, rows_at}
use Rattle.laws.proofs.Rows.{length_rows_at}
use Rattle.laws.specs.Lists.{All}
use Rattle.laws.proofs.Lists.{filter_none}
use Rattle.laws.proofs.Filters.{filter_append}
use Rattle.meaning.specs.Operators.{Row, cell, column}
use Rattle.tables.specs.declared.Stand.{Stand}
use Rattle.tables.specs.Layout.{table_at}
use Rattle.tables.proofs.Reading.{cell_read, column_at, length_column}
use Rattle.searching.specs.declared.Part.{Part}
use Rattle.searching.specs.Narrowed.{passed, Front, Back, Narrows}

module _ (xs : List ℤ) (w : ℕ) where
  rows_split : (a m n : ℕ) → rows_at xs a (m + n) w ≡ rows_at xs a m w ++ rows_at xs (a + m * w) n w
  unfolding rows_at
  rows_split a zero n =
      let e : a ≡ a + 0 * w = omega (arith, zero-mul w) in
      let z : 0 + n ≡ n = omega arith in
      ap₂ (λ (b k : ℕ). rows_at xs b k w) e z
  rows_split a (suc m) n =
      let e : a + w + m * w ≡ a + suc m * w = omega (arith, suc-mul m w) in
      let s : suc m + n ≡ suc (m + n) = omega arith in
      ap (λ (k : ℕ). rows_at xs a k w) s
      ∙ ap (row xs a w ∷◌) (rows_split (a + w) m n ∙ ap (λ (b : ℕ). rows_at xs (a + w) m w ++ rows_at xs b n w) e)

  all_rows : (P : Row → Type 0) (a n : ℕ) → ((i : ℕ) → i < n → P (row xs (a + i * w) w)) → All P (rows_at xs a n w)
  unfolding rows_at
  all_rows P a zero f = tt
  all_rows P a (suc n) f = (
    subst (λ (b : ℕ). P (row xs b w)) (first a) (f 0 (omega arith)),
    all_rows P (a + w) n (λ i h. subst (λ (b : ℕ). P (row xs b w)) (next a i) (f (suc i) (omega arith))),
  )
    where
      first : (a : ℕ) → a + 0 * w ≡ a
      first a = omega (arith, zero-mul w)

      next : (a i : ℕ) → a + suc i * w ≡ a + w + i * w
      next a i = omega (arith, suc-mul i w)

-- rows that hold another cell than x
module _ (x : ℤ) where
  before_not : (z : ℤ) → passed false x z ≡ true → same x z ≡ false
  unfolding passed
  before_not z e = same_sym x z ∙ before_other z x e

  after_not : (z : ℤ) → passed true x z ≡ false → same x z ≡ false
  unfolding passed
  after_not z e = before_other x z (not-false (before x z) e)

module _ (xs : List ℤ) (a n w d : ℕ) (x : ℤ) (inside : d < w) where
  -- a row's cell, as the column has it
  cell_in : (i : ℕ) → i < n → cell (row xs (a + i * w) w) d ≡ get_or (column (rows_at xs a n w) d) i (pos 0)
  cell_in i h = cell_read xs (a + i * w) w d inside ∙ sym (column_at xs a n w d i inside h)

  front_differs : (m : ℕ) → m ≤ n → Front false x (column (rows_at xs a n w) d) m
      → All (λ (q : Row). same x (cell q d) ≡ false) (rows_at xs a m w)
  unfolding Front
  front_differs m h f =
      all_rows xs w _ a m (λ i k. ap (same x) (cell_in i (omega arith)) ∙ before_not x _ (f i k))

  back_differs : (m : ℕ) → m ≤ n → Back true x (column (rows_at xs a n w) d) m
      → All (λ (q : Row). same x (cell q d) ≡ false) (rows_at xs (a + m * w) (n - m) w)
  unfolding Back
  back_differs m h f = all_rows xs w _ (a + m * w) (n - m) at_row
    where
      further : (i : ℕ) → a + m * w + i * w ≡ a + (m + i) * w
      further i = omega (arith, add-mul m i w)

      at_row : (i : ℕ) → i < n - m → same x (cell (row xs (a + m * w + i * w) w) d) ≡ false
      at_row i k =
          ap (λ (b : ℕ). same x (cell (row xs b w) d)) (further i)
          ∙ ap (same x) (cell_in (m + i) (omega arith))
          ∙ after_not x _ (f (m + i) (omega arith)
          (omega (arith, length_column (rows_at xs a n w) d, length_rows_at xs a n w)))

  between_alike : (lo hi : ℕ) → lo ≤ hi → hi ≤ n
      → Front false x (column (rows_at xs a n w) d) lo → Back true x (column (rows_at xs a n w) d) hi
      → filter (λ (q : Row). same x (cell q d)) (rows_at xs a n w)
      ≡ filter (λ (q : Row). same x (cell q d)) (rows_at xs (a + lo * w) (hi - lo) w)
  between_alike lo hi h k f b =
      let p : Row → Bool = λ q. same x (cell q d) in
      let e : n ≡ lo + ((hi - lo) + (n - hi)) = omega arith in
      let g : a + lo * w + (hi - lo) * w ≡ a + hi * w = end in
      ap (λ (m : ℕ). filter p (rows_at xs a m w)) e
      ∙ ap (filter p) (rows_split xs w a lo ((hi - lo) + (n - hi)))
      ∙ filter_append p (rows_at xs a lo w) (rows_at xs (a + lo * w) ((hi - lo) + (n - hi)) w)
      ∙ ap (◌++ filter p (rows_at xs (a + lo * w) ((hi - lo) + (n - hi)) w))
      (filter_none p (rows_at xs a lo w) (front_differs lo (omega arith) f))
      ∙ ap (filter p) (rows_split xs w (a + lo * w) (hi - lo) (n - hi))
      ∙ filter_append p (rows_at xs (a + lo * w) (hi - lo) w) (rows_at xs (a + lo * w + (hi - lo) * w) (n - hi) w)
      ∙ ap (λ (c : ℕ). filter p (rows_at xs (a + lo * w) (hi - lo) w) ++ filter p (rows_at xs c (n - hi) w)) g
      ∙ ap (filter p (rows_at xs (a + lo * w) (hi - lo) w) ++◌)
      (filter_none p (rows_at xs (a + hi * w) (n - hi) w) (back_differs hi k b))
      ∙ append-nil (filter p (rows_at xs (a + lo * w) (hi - lo) w))
    where
      end : a + lo * w + (hi - lo) * w ≡ a + hi * w
      end =
          let e : lo + (hi - lo) ≡ hi = omega arith in
          omega (arith, add-mul lo (hi - lo) w, ap (λ (m : ℕ). m * w) e)

module _ (xs : List ℤ) (u : Stand) (d : ℕ) (x : ℤ) where
  pub narrows_whole : Narrows xs u d x (record { start = 0; end = u.rows })
  unfolding table_at
  narrows_whole =
      record {
        ordered = omega arith;
        within = omega arith;
        joins_alike =
            ap₂ (λ (b m : ℕ). filter (λ (q : Row). same x (cell q d)) (rows_at xs b m u.width))
            (first u.at u.width) (all_of u.rows);
      }
    where
      first : (a w : ℕ) → a ≡ a + 0 * w
      first a w = omega (arith, zero-mul w)

      all_of : (n : ℕ) → n ≡ n - 0
      all_of n = omega arith

  pub narrows_part : (lo hi : ℕ) → d < u.width → lo ≤ hi → hi ≤ u.rows
      → Front false x (column (table_at xs u) d) lo → Back true x (column (table_at xs u) d) hi
      → Narrows xs u d x (record { start = lo; end = hi })
  unfolding table_at
  narrows_part lo hi g h k f b =
      record {
        ordered = h;
        within = k;
        joins_alike = between_alike xs u.at u.rows u.width d x g lo hi h k f b;
      }

-- .. for an equal cell
module _ (x z : ℤ) (e : x ≡ z) where
  pub narrows_cell : (xs : List ℤ) (u : Stand) (d : ℕ) (p : Part) → Narrows xs u d x p → Narrows xs u d z p
  narrows_cell xs u d p h = subst (λ (y : ℤ). Narrows xs u d y p) e h

  pub front_cell : (equal : Bool) (zs : List ℤ) (n : ℕ) → Front equal x zs n → Front equal z zs n
  front_cell equal zs n h = subst (λ (y : ℤ). Front equal y zs n) e h

  pub back_cell : (equal : Bool) (zs : List ℤ) (n : ℕ) → Back equal x zs n → Back equal z zs n
  back_cell equal zs n h = subst (λ (y : ℤ). Back equal y zs n) e h
