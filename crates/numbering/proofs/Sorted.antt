-- From row numbers to rows: the table in rising order is the rows of the sorted numbers.
--     rows_numbered       the rows of a table are those of the numbers below its length
--     cell_row            a column stands within the row
--     column_p, columns_within, order_within     p and the keys are columns, where the plan check is passed
--     sorted_rows         the sort of a table by columns, as the rows of the sorted numbers
--     numbered_rows_lem       what RN makes, as counted rows of the sorted numbers
--     numbers_within, number_within     the sorted numbers are those of rows
--     row_end, rows_wide  the rows of the table end within it, and are as wide as it is
use Prim.Native.Nat.{ℕ, zero, suc, ◌+◌, ◌*◌, ◌≤◌, ◌<◌}
use mathlib.Core.Path.{◌≡◌, refl, sym, ap, ◌∙◌, fun_ext}
use mathlib.Core.List.{List, [], ◌∷◌, ◌++◌, map}
use mathlib.Core.Bool.{Bool, true, false, ◌||◌}
use native.Mathlib.Omega.{arith}
use native.Mathlib.Nat.{suc-mul, zero-mul, add-zero, mul-le-mul_right, zero-add}
use lib.Dec.{eqb, ltb}
use lib.IntN.{ℤ, pos}
use lib.ListN.{length, drop, get_or}
use lib.Seq.{get_or-take}
use borrow.Author.Tests.{ltb-true}
use Rattle.laws.specs.Lists.{below, all}
use Rattle.laws.specs.Rows.{row, rows_at}
use Rattle.laws.specs.Sorting.{sort}
use Rattle.laws.specs.Lists.{All}
use Rattle.laws.proofs.Lists.{all_below, all_get_d}
use Rattle.laws.proofs.Filters.{map_append}
use Rattle.laws.proofs.Booleans.{by_cases}
use Rattle.laws.proofs.Sorting.{all_sort, sorted_sort}
use Rattle.laws.proofs.Merging.{map_sort}
use Rattle.laws.proofs.Rows.{length_row, get_d_row}
use Rattle.laws.proofs.Booleans.{both_true}
use Rattle.meaning.specs.Plan.{columns}
use Rattle.meaning.specs.Operators.{Table, cell, rising, in_group, number}
use Rattle.tables.specs.declared.Stand.{Stand}
use Rattle.tables.specs.Layout.{table_at, Wide}
use Rattle.row_order.specs.declared.Keys.{Keys}
use Rattle.row_order.specs.Order.{columns_of, order_of, from, stands_before, KeyColumns}
use Rattle.numbering.specs.Numbered.{row_of, counted_from, numbered_rows}
use Rattle.row_order.proofs.Columns.{rising_weak}
use Rattle.numbering.proofs.Counting.{counted_group}

-- the rows of a table, the last one by itself
rows_at_snoc :
    {A : Type 0} (xs : List A) (a n w : ℕ) →
    rows_at xs a (suc n) w ≡ rows_at xs a n w ++ (row xs (a + n * w) w ∷ [])
unfolding rows_at
rows_at_snoc xs a zero w = rw (zero-mul w, add-zero a)
rows_at_snoc xs a (suc n) w =
    let e : suc n * w ≡ n * w + w = suc-mul n w in
    let d : a + w + n * w ≡ a + suc n * w = omega arith in
    ap (λ t. row xs a w ∷ t)
    (rows_at_snoc xs (a + w) n w ∙ ap (λ (m : ℕ). rows_at xs (a + w) n w ++ (row xs m w ∷ [])) d)

rows_below : (xs : List ℤ) (a n w : ℕ) → rows_at xs a n w ≡ map (λ (i : ℕ). row xs (a + i * w) w) (below n)
unfolding rows_at below
rows_below xs a zero w = refl
rows_below xs a (suc n) w =
    rows_at_snoc xs a n w
    ∙ ap (λ (t : Table). t ++ (row xs (a + n * w) w ∷ [])) (rows_below xs a n w)
    ∙ sym (map_append (λ (i : ℕ). row xs (a + i * w) w) (below n) (n ∷ []))

pub rows_numbered : (xs : List ℤ) (s : Stand) → table_at xs s ≡ map (row_of xs s) (below s.rows)
unfolding table_at row_of
rows_numbered xs s = rows_below xs s.at s.rows s.width

-- the keys stand within the row
pub cell_row : (xs : List ℤ) (a w k : ℕ) → k < w → cell (drop a xs) k ≡ cell (row xs a w) k
unfolding row
cell_row xs a w k h = sym (get_or-take w (drop a xs) k (pos 0) h)

rising_row :
    (xs : List ℤ) (a b w : ℕ) (ks : List ℕ) → All (λ k. k < w) ks →
    rising ks (drop a xs) (drop b xs) ≡ rising ks (row xs a w) (row xs b w)
unfolding rising
rising_row xs a b w [] h = refl
rising_row xs a b w (k ∷ ks) h =
    rw (cell_row xs a w k h.0, cell_row xs b w k h.0, rising_row xs a b w ks h.1)

-- what the plan check asks
all_within : (w : ℕ) (ks : List ℕ) → columns w ks ≡ true → All (λ k. k < w) ks
unfolding columns all
all_within w [] e = tt
all_within w (k ∷ ks) e =
    let h = both_true (ltb k w) (columns w ks) e in
    (ltb-true k w h.0, all_within w ks h.1)

module _ (w p : ℕ) (keys : Keys) (suits : KeyColumns w p keys) where
  pub column_p : eqb p 255 ≡ false → p < w
  unfolding KeyColumns
  column_p e =
      ltb-true p w (sym (rw e) ∙ (both_true (eqb p 255 || ltb p w) (columns w (columns_of keys)) suits).0)

  pub columns_within : All (λ k. k < w) (columns_of keys)
  unfolding KeyColumns
  columns_within =
      all_within w (columns_of keys) (both_true (eqb p 255 || ltb p w) (columns w (columns_of keys)) suits).1

  pub order_within : All (λ k. k < w) (order_of p keys)
  unfolding order_of
  order_within = by_cases (eqb p 255) (λ e. rw e columns_within) (λ e. rw e (column_p e, columns_within))

module _ (xs : List ℤ) (s : Stand) where
  pub sorted_rows :
      (ks : List ℕ) → All (λ k. k < s.width) ks →
      sort (rising ks) (table_at xs s) ≡ map (row_of xs s) (sort (stands_before xs s ks) (below s.rows))
  unfolding stands_before from row_of
  sorted_rows ks h =
      ap (sort (rising ks)) (rows_numbered xs s)
      ∙ sym (map_sort (rising ks) (row_of xs s) (below s.rows))
      ∙ ap (λ (b : ℕ → ℕ → Bool). map (row_of xs s) (sort b (below s.rows)))
      (fun_ext (λ i. fun_ext (λ j. sym (rising_row xs (s.at + i * s.width) (s.at + j * s.width) s.width ks h))))

  module _ (p : ℕ) (keys : Keys) (suits : KeyColumns s.width p keys) (ns : List ℕ)
      (sorted : ns ≡ sort (stands_before xs s (order_of p keys)) (below s.rows)) where
    pub numbered_rows_lem : number (table_at xs s) p (columns_of keys) ≡ numbered_rows xs s p ns
    unfolding number order_of
    numbered_rows_lem =
        counted_group p keys (row_of xs s 0) (sort (rising (order_of p keys)) (table_at xs s))
        (sorted_sort (rising (order_of p keys)) (rising_weak (order_of p keys)) (table_at xs s))
        ∙ ap (counted_from (in_group p) (row_of xs s 0) 0)
        (sorted_rows (order_of p keys) (order_within s.width p keys suits) ∙ ap (map (row_of xs s)) (sym sorted))

    pub numbers_within : All (λ i. i < s.rows) ns
    numbers_within =
        rw sorted
        (all_sort (stands_before xs s (order_of p keys)) (λ i. i < s.rows) (below s.rows) (all_below s.rows))

-- .. each of them
pub number_within : (ns : List ℕ) (n : ℕ) → n ≤ length ns → All (λ i. i < n) (row ns 0 n)
    → (i : ℕ) → i < n → get_or ns i 0 < n
number_within ns n h k i l =
    rw (get_d_row ns 0 n i 0 l, zero-add i) at
    (all_get_d (λ j. j < n) (row ns 0 n) i 0 k (omega (arith, length_row ns 0 n (omega arith))))

-- row i ends within the table
pub row_end : (s : Stand) (i : ℕ) → i < s.rows → s.at + i * s.width + s.width ≤ s.at + s.rows * s.width
row_end s i h =
    let e : suc i * s.width ≡ i * s.width + s.width = suc-mul i s.width in
    omega (arith, mul-le-mul_right s.width h)

pub rows_wide :
    (xs : List ℤ) (s : Stand) → s.at + s.rows * s.width ≤ length xs → (ns : List ℕ) → All (λ i. i < s.rows) ns →
    Wide s.width (map (row_of xs s) ns)
unfolding Wide row_of
rows_wide xs s h [] k = tt
rows_wide xs s h (i ∷ ns) k =
    let inside = row_end s i k.0 in
    (length_row xs (s.at + i * s.width) s.width (omega arith), rows_wide xs s h ns k.1)
