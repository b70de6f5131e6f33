-- From cells to rows and columns: what is read of a table that stands in the cells.
--     cell_read                      a column of a row that stands in the cells is the cell there
--     row_inside, cell_inside        a row of a table, and a cell of it, end where the table does, or before
--     rows_few                       a table has no more rows than cells
--     cell_at_is, column_at          the cell that is read is the column of the row
--     length_table, length_column, length_rows    a table and a column have as many members as rows
--     get_d_column                    a cell of a column
--     column_drop, column_take       the column of a part of a table
--     table_above, table_from, table_part    the rows above row i, from row i on, and n of these
use Prim.Native.Nat.{ℕ, zero, suc, ◌+◌, ◌-◌, ◌*◌, ◌≤◌, ◌<◌}
use mathlib.Core.Path.{◌≡◌, refl, sym, ap, ap₂, ◌∙◌}
use mathlib.Core.List.{List, [], ◌∷◌}
use native.Mathlib.Omega.{arith}
use native.Mathlib.Nat.{suc-mul, zero-mul, mul-le-mul_right, le-mul_of_pos_right}
use lib.IntN.{ℤ, pos}
use lib.ListN.{length, get_or, take, drop, length-map}
use Rattle.laws.specs.Rows.{row, rows_at}
use Rattle.laws.proofs.Rows.{length_rows_at, get_d_row}
use Rattle.meaning.specs.Operators.{Row, Table, cell, column}
use Rattle.tables.specs.declared.Stand.{Stand}
use Rattle.tables.specs.Layout.{table_at, Inside}
use Rattle.tables.specs.Order.{cell_at}

pub cell_read : (xs : List ℤ) (a w c : ℕ) → c < w → cell (row xs a w) c ≡ get_or xs (a + c) (pos 0)
cell_read xs a w c h = get_d_row xs a w c (pos 0) h

pub row_inside : (i n w : ℕ) → i < n → i * w + w ≤ n * w
row_inside i n w h =
    let k : suc i ≤ n = omega arith in
    omega (arith, mul-le-mul_right w k, suc-mul i w)

pub cell_inside : (a n w d i top : ℕ) → i < n → d < w → a + n * w ≤ top → a + i * w + d < top
cell_inside a n w d i top h k l = omega (arith, row_inside i n w h)

-- a table that has a column has no more rows than cells
pub rows_few : (s : Stand) (c top : ℕ) → c < s.width → Inside top s → s.rows ≤ top
unfolding Inside
rows_few s c top h i =
    let k : 0 < s.width = omega arith in
    omega (arith, le-mul_of_pos_right s.rows k)

-- row i further on
next_row : (a i w : ℕ) → a + w + i * w ≡ a + suc i * w
next_row a i w = omega (arith, suc-mul i w)

get_d_rows_at : (xs : List ℤ) (a n w i : ℕ) → i < n → get_or (rows_at xs a n w) i [] ≡ row xs (a + i * w) w
unfolding rows_at
get_d_rows_at xs a zero w i h = absurd (omega arith)
get_d_rows_at xs a (suc n) w zero h = ap (λ (b : ℕ). row xs b w) (omega (arith, zero-mul w))
get_d_rows_at xs a (suc n) w (suc i) h =
    get_d_rows_at xs (a + w) n w i (omega arith) ∙ ap (λ (b : ℕ). row xs b w) (next_row a i w)

pub cell_at_is :
    (xs : List ℤ) (s : Stand) (c i : ℕ) → c < s.width → i < s.rows →
    get_or xs (s.at + i * s.width + c) (pos 0) ≡ cell_at (table_at xs s) c i
unfolding table_at
cell_at_is xs s c i h k =
    sym (get_d_row xs (s.at + i * s.width) s.width c (pos 0) h)
    ∙ ap (λ (r : Row). cell r c) (sym (get_d_rows_at xs s.at s.rows s.width i k))

pub length_table : (xs : List ℤ) (s : Stand) → length (table_at xs s) ≡ s.rows
unfolding table_at
length_table xs s = length_rows_at xs s.at s.rows s.width

module _ (t : Table) (c : ℕ) where
  pub length_column : length (column t c) ≡ length t
  unfolding column
  length_column = length-map t (λ (r : Row). cell r c)

pub get_d_column : (t : Table) (c i : ℕ) → get_or (column t c) i (pos 0) ≡ cell_at t c i
unfolding column
get_d_column [] c i = refl
get_d_column (r ∷ t) c zero = refl
get_d_column (r ∷ t) c (suc i) = get_d_column t c i

-- a cell of a column of rows that stand in the cells
pub column_at : (xs : List ℤ) (a n w c i : ℕ) → c < w → i < n
    → get_or (column (rows_at xs a n w) c) i (pos 0) ≡ get_or xs (a + i * w + c) (pos 0)
column_at xs a n w c i h k =
    get_d_column (rows_at xs a n w) c i
    ∙ ap (λ (r : Row). cell r c) (get_d_rows_at xs a n w i k)
    ∙ cell_read xs (a + i * w) w c h

pub length_rows : (xs : List ℤ) (s : Stand) (c : ℕ) → length (column (table_at xs s) c) ≡ s.rows
length_rows xs s c = length_column (table_at xs s) c ∙ length_table xs s

pub column_drop : (t : Table) (c i : ℕ) → column (drop i t) c ≡ drop i (column t c)
unfolding column
column_drop t c zero = refl
column_drop [] c (suc i) = refl
column_drop (r ∷ t) c (suc i) = column_drop t c i

pub column_take : (t : Table) (c i : ℕ) → column (take i t) c ≡ take i (column t c)
unfolding column
column_take t c zero = refl
column_take [] c (suc i) = refl
column_take (r ∷ t) c (suc i) = ap (cell r c ∷◌) (column_take t c i)

rows_above : (xs : List ℤ) (a n w i : ℕ) → i ≤ n → rows_at xs a i w ≡ take i (rows_at xs a n w)
unfolding rows_at
rows_above xs a n w zero h = refl
rows_above xs a zero w (suc i) h = absurd (omega arith)
rows_above xs a (suc n) w (suc i) h = ap (row xs a w ∷◌) (rows_above xs (a + w) n w i (omega arith))

rows_from : (xs : List ℤ) (a n w i : ℕ) → i ≤ n → rows_at xs (a + i * w) (n - i) w ≡ drop i (rows_at xs a n w)
unfolding rows_at
rows_from xs a n w zero h =
    let e : a + 0 * w ≡ a = omega (arith, zero-mul w) in
    let d : n - 0 ≡ n = omega arith in
    ap₂ (λ (b m : ℕ). rows_at xs b m w) e d
rows_from xs a zero w (suc i) h = absurd (omega arith)
rows_from xs a (suc n) w (suc i) h =
    let d : suc n - suc i ≡ n - i = omega arith in
    ap₂ (λ (b m : ℕ). rows_at xs b m w) (sym (next_row a i w)) d ∙ rows_from xs (a + w) n w i (omega arith)

module _ (xs : List ℤ) (s : Stand) (i : ℕ) where
  pub table_above : i ≤ s.rows → rows_at xs s.at i s.width ≡ take i (table_at xs s)
  unfolding table_at
  table_above h = rows_above xs s.at s.rows s.width i h

  pub table_from : i ≤ s.rows → rows_at xs (s.at + i * s.width) (s.rows - i) s.width ≡ drop i (table_at xs s)
  unfolding table_at
  table_from h = rows_from xs s.at s.rows s.width i h

  pub table_part :
      (n : ℕ) → i ≤ s.rows → n ≤ s.rows - i →
      rows_at xs (s.at + i * s.width) n s.width ≡ take n (drop i (table_at xs s))
  table_part n h k =
      rows_above xs (s.at + i * s.width) (s.rows - i) s.width n k ∙ ap (take n) (table_from h)
