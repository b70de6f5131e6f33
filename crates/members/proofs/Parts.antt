-- The part of a table that has all rows of the group that a row opens.
--     opening_group      the rows above a row that opens a group have none of the group's
--     leading-..         the rows from the first on that hold one cell, row by row
--     from s i n, HasGroup   n rows of the table s from row i on, and what is asked of them
--     left_has, run_has  what both parts have
use Prim.Native.Nat.{ℕ, suc, ◌+◌, ◌-◌, ◌*◌, ◌≤◌, ◌<◌}
use mathlib.Core.Path.{◌≡◌, refl, sym, ap, ap₂, ◌∙◌, subst}
use mathlib.Core.List.{List, [], ◌∷◌, ◌++◌}
use mathlib.Core.Bool.{Bool, true, false, cond, ◌||◌}
use native.Mathlib.Omega.{arith}
use native.Mathlib.Nat.{add-zero, add-mul, mul-le-mul_right}
use lib.IntN.{ℤ, pos}
use lib.ListN.{length, get_or, take, drop, take-append-drop, length-drop, drop_of_length-le}
use lib.Seq.{drop-cons, get_or-drop, get_or-take, take_all}
use borrow.Author.Tests.{not-true}
use Rattle.cells.specs.Cell.{same, before}
use Rattle.cells.proofs.Cells.{same_eq, same_refl, neither_same, before_irrefl}
use Rattle.laws.specs.Lists.{filter, any}
use Rattle.laws.specs.Lists.{All}
use Rattle.laws.proofs.Lists.{all_map, filter_none}
use Rattle.laws.proofs.Filters.{filter_append, all_unmapped}
use Rattle.laws.proofs.Booleans.{by_cases, clash}
use Rattle.meaning.specs.Operators.{Row, Table, cell, column, group_of}
use Rattle.tables.specs.declared.Stand.{Stand}
use Rattle.tables.specs.Layout.{table_at}
use Rattle.members.specs.Grouped.{in_front, opening, leading}
use Rattle.tables.specs.Order.{cell_at, climbs}
use Rattle.tables.proofs.Reading.{length_table, length_column, get_d_column, column_drop, column_take, table_part}
use Rattle.tables.proofs.Climbing.{climbs_low, climbs_tail, climbs_drop}

none_group : (t : Table) (c : ℕ) (x : ℤ) → any (same x) (column t c) ≡ false → group_of t c x ≡ []
unfolding group_of filter any column
none_group [] c x e = refl
none_group (r ∷ t) c x e =
    by_cases (same x (cell r c))
    (λ d. clash (ap (◌|| any (same x) (column t c)) d) e)
    (λ d. rw d (none_group t c x (sym (ap (◌|| any (same x) (column t c)) d) ∙ e)))

pub opening_group :
    (t : Table) (c i : ℕ) → opening t c i ≡ true → group_of (drop i t) c (cell_at t c i) ≡ group_of t c (cell_at t c i)
unfolding opening group_of
opening_group t c i e =
    let x = cell_at t c i in
    let none : group_of (take i t) c x ≡ [] =
    none_group (take i t) c x (ap (any (same x)) (column_take t c i) ∙ not-true _ e) in
    sym
    (ap (λ (u : Table). group_of u c x) (sym (take-append-drop i t))
    ∙ filter_append (λ (r : Row). same x (cell r c)) (take i t) (drop i t)
    ∙ ap (◌++ group_of (drop i t) c x) none)

-- the rows from the first on that hold x, from row i on
module _ (t : Table) (c : ℕ) (x : ℤ) (i : ℕ) where
  leading_split : i < length t →
      leading (same x) (drop i (column t c))
      ≡ cond (same x (cell_at t c i)) (suc (leading (same x) (drop (suc i) (column t c)))) 0
  unfolding leading
  leading_split h =
      ap (leading (same x))
      (drop-cons (column t c) i (pos 0) (omega (arith, length_column t c))
      ∙ ap (◌∷ drop (suc i) (column t c)) (get_d_column t c i))

  pub leading_more :
      (whole : ℕ) → i < length t → same x (cell_at t c i) ≡ true → i + leading (same x) (drop i (column t c)) ≡ whole →
      i + 1 + leading (same x) (drop (i + 1) (column t c)) ≡ whole
  leading_more whole h e d =
      let next : suc i ≡ i + 1 = omega arith in
      let k : leading (same x) (drop i (column t c)) ≡ suc (leading (same x) (drop (i + 1) (column t c))) =
      leading_split h
      ∙ ap (λ (b : Bool). cond b (suc (leading (same x) (drop (suc i) (column t c)))) 0) e
      ∙ ap (λ (j : ℕ). suc (leading (same x) (drop j (column t c)))) next in
      omega arith

  pub leading_stops :
      (whole : ℕ) → i < length t → same x (cell_at t c i) ≡ false → i + leading (same x) (drop i (column t c)) ≡ whole →
      i ≡ whole
  leading_stops whole h e d =
      let k : leading (same x) (drop i (column t c)) ≡ 0 =
      leading_split h ∙ ap (λ (b : Bool). cond b (suc (leading (same x) (drop (suc i) (column t c)))) 0) e in
      omega arith

  pub leading_ends :
      (whole : ℕ) → length t ≤ i → i + leading (same x) (drop i (column t c)) ≡ whole → i ≡ whole
  unfolding leading
  leading_ends whole h d =
      let k : leading (same x) (drop i (column t c)) ≡ 0 =
      ap (leading (same x)) (drop_of_length-le (column t c) {i = i} (omega (arith, length_column t c))) in
      omega arith

leading_some : (t : Table) (c : ℕ) → 0 < length t → 0 < leading (same (cell_at t c 0)) (column t c)
unfolding leading column
leading_some [] c h = absurd (omega arith)
leading_some (r ∷ t) c h = rw (same_refl (cell r c)) (omega arith)

-- where a column climbs, the rows of a cell from the first on are all its rows
run_all : (c : ℕ) (x : ℤ) (u : Table) → climbs (column u c) ≡ true → All (λ y. before y x ≡ false) (column u c)
    → group_of (take (leading (same x) (column u c)) u) c x ≡ group_of u c x
unfolding group_of filter leading column
run_all c x [] e h = refl
run_all c x (r ∷ u) e h =
    by_cases (same x (cell r c))
    (λ d. rw (d, d) (ap (r ∷◌) (run_all c x u (climbs_tail (cell r c) (column u c) e) h.1)))
    (λ d.
    rw d
    (sym (filter_none (λ (q : Row). same x (cell q c)) u
    (all_unmapped (λ y. same x y ≡ false) (λ (q : Row). cell q c) u
    (all_map (column u c) (λ y k. differs y d k) (climbs_low (cell r c) (column u c) e))))))
  where
    differs : (y : ℤ) → same x (cell r c) ≡ false → before y (cell r c) ≡ false → same x y ≡ false
    differs y d k =
        by_cases (same x y)
        (λ f.
        let b : before x (cell r c) ≡ false = subst (λ (z : ℤ). before z (cell r c) ≡ false) (sym (same_eq x y f)) k in
        clash (neither_same x (cell r c) b h.0) d)
        (λ f. f)

run_group :
    (u : Table) (c : ℕ) → climbs (column u c) ≡ true →
    group_of (take (leading (same (cell_at u c 0)) (column u c)) u) c (cell_at u c 0) ≡ group_of u c (cell_at u c 0)
unfolding column leading
run_group [] c e = refl
run_group (r ∷ u) c e =
    run_all c (cell r c) (r ∷ u) e (before_irrefl (cell r c), climbs_low (cell r c) (column u c) e)

-- a part of the table s that begins with row i, and what is asked of it
abbrev from : Stand → (i n : ℕ) → Stand
from s i n = record { at = s.at + i * s.width; rows = n; width = s.width }

abbrev HasGroup : List ℤ → Stand → (c i : ℕ) → Stand → Type 0
HasGroup xs s c i p =
    (p.at + p.rows * p.width ≤ s.at + s.rows * s.width)
    × (p.width ≡ s.width)
    × (0 < p.rows)
    × (in_front (table_at xs p) c ≡ cell_at (table_at xs s) c i)
    × (group_of (table_at xs p) c (cell_at (table_at xs s) c i)
    ≡ group_of (table_at xs s) c (cell_at (table_at xs s) c i))

module _ (xs : List ℤ) (s : Stand) (c i : ℕ) (inside : i < s.rows) where
  abbrev t : Table
  t = table_at xs s

  front : cell_at (drop i t) c 0 ≡ cell_at t c i
  front = ap (λ (r : Row). cell r c) (get_or-drop i t 0 [] ∙ ap (λ (j : ℕ). get_or t j []) (add-zero i))

  part_is : (n : ℕ) → n ≤ s.rows - i → table_at xs (from s i n) ≡ take n (drop i t)
  unfolding table_at
  part_is n h = table_part xs s i n (omega arith) h

  part_has :
      (n : ℕ) → n ≤ s.rows - i → 0 < n →
      group_of (take n (drop i t)) c (cell_at t c i) ≡ group_of t c (cell_at t c i) → HasGroup xs s c i (from s i n)
  part_has n h k e =
      let m : i + n ≤ s.rows = omega arith in (
        omega (arith, mul-le-mul_right s.width m, add-mul i n s.width),
        refl,
        k,
        ap (λ (u : Table). cell_at u c 0) (part_is n h)
            ∙ ap (λ (r : Row). cell r c) (get_or-take n (drop i t) 0 [] k)
            ∙ front,
        ap (λ (u : Table). group_of u c (cell_at t c i)) (part_is n h) ∙ e,
      )

  module _ (e : opening t c i ≡ true) where
    -- all rows from row i on
    pub left_has : HasGroup xs s c i (from s i (s.rows - i))
    left_has =
        part_has (s.rows - i) (omega arith) (omega arith)
        (ap (λ (u : Table). group_of u c (cell_at t c i))
        (take_all (s.rows - i) (drop i t) (omega (arith, length-drop i t, length_table xs s)))
        ∙ opening_group t c i e)

    -- where the column climbs, the rows from row i on that hold its cell
    pub run_has :
        (n : ℕ) → climbs (column t c) ≡ true → n ≤ s.rows - i →
        n ≡ leading (same (in_front (table_at xs (from s i (s.rows - i))) c))
        (column (table_at xs (from s i (s.rows - i))) c) →
        HasGroup xs s c i (from s i n)
    run_has n up h d =
        let u = drop i t in
        let all : table_at xs (from s i (s.rows - i)) ≡ u =
        part_is (s.rows - i) (omega arith)
        ∙ take_all (s.rows - i) u (omega (arith, length-drop i t, length_table xs s)) in
        let m : n ≡ leading (same (cell_at u c 0)) (column u c) =
        d ∙ ap (λ (v : Table). leading (same (cell_at v c 0)) (column v c)) all in
        let some : 0 < leading (same (cell_at u c 0)) (column u c) =
        leading_some u c (omega (arith, length-drop i t, length_table xs s)) in
        part_has n h (omega arith)
        (ap₂ (λ (k : ℕ) (x : ℤ). group_of (take k u) c x) m (sym front)
        ∙ run_group u c (ap climbs (column_drop t c i) ∙ climbs_drop (column t c) i up)
        ∙ ap (group_of u c) front
        ∙ opening_group t c i e)
