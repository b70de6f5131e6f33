-- Columns of a row: laying those that a plan names (RP), and testing one (RS).
--     column_below        the columns that a plan names are columns
--     projected-..        they are laid, one after another
--     column_test         a column is true (RS)
use Rattle.std.specs.Prelude.{Ok, Err}
use Prim.Native.Nat.{ℕ, ◌+◌, ◌≤◌, ◌<◌}
use mathlib.Core.Path.{◌≡◌, refl, sym, ap, ◌∙◌}
use mathlib.Core.List.{List, [], ◌∷◌, ◌++◌, map}
use mathlib.Core.Bool.{Bool, true}
use native.Mathlib.Omega.{arith}
use native.Mathlib.Numerals.{add-one}
use lib.Dec.{ltb}
use lib.IntN.{ℤ, pos}
use lib.ListN.{length, get_or, set, length-map}
use borrow.Author.Tests.{ltb-true}
use Rattle.laws.specs.Rows.{row, laid}
use Rattle.laws.proofs.Lists.{all_at}
use Rattle.laws.proofs.Filters.{map_append}
use Rattle.laws.proofs.Rows.{length_row, get_d_row, row_suc, get_d_laid, set_more}
use Rattle.cells.specs.Cell.{same, true_cell}
use Rattle.laws.specs.Attempt.{gives}
use Rattle.meaning.specs.Operators.{Row, cell}
use Rattle.meaning.specs.Plan.{columns_at, columns}
use Rattle.tables.specs.declared.Unlaid.TheVariants.{Full}
use Rattle.tables.specs.Layout.{Owes}
use Rattle.tables.proofs.Promise.{one_full, one_laid}
use Rattle.tables.proofs.Reading.{cell_read}

module _ (plan : List ℕ) (k : ℕ) where
  length_columns : (n : ℕ) → k + n ≤ length plan → length (columns_at plan k n) ≡ n
  unfolding columns_at row
  length_columns n h = length_row plan k n h

  pub column_below :
      (n w i b : ℕ) → k + n ≤ length plan → columns w (columns_at plan k n) ≡ true → i < n → b ≡ get_or plan (k + i) 0
      → b < w
  unfolding columns columns_at row
  column_below n w i b h e j r =
      let long = length_columns n h in
      let m = ltb-true (get_or (row plan k n) i 0) w (all_at (λ c. ltb c w) (row plan k n) i 0 e (omega arith)) in
      let q = get_d_row plan k n i 0 j in
      omega arith

  columns_suc :
      (i : ℕ) → k + i < length plan → columns_at plan k (i + 1) ≡ columns_at plan k i ++ (get_or plan (k + i) 0 ∷ [])
  unfolding columns_at row
  columns_suc i h = ap (row plan k) (add-one i) ∙ row_suc plan k i 0 h

  pub length_projected :
      (r : Row) (n : ℕ) → k + n ≤ length plan → length (map (cell r) (columns_at plan k n)) ≡ n
  length_projected r n h = length-map (columns_at plan k n) (cell r) ∙ length_columns n h

  pub projected_none : (r : Row) → map (cell r) (columns_at plan k 0) ≡ []
  unfolding columns_at
  projected_none r = refl

  pub projected_more :
      (xs ys : List ℤ) (a w at i b : ℕ) (v : ℤ) →
      ys ≡ laid xs at (map (cell (row xs a w)) (columns_at plan k i)) →
      a + w ≤ at → k + i < length plan → at + i < length xs →
      b ≡ get_or plan (k + i) 0 → b < w → v ≡ get_or ys (a + b) (pos 0) →
      set ys (at + i) v ≡ laid xs at (map (cell (row xs a w)) (columns_at plan k (i + 1)))
  projected_more xs ys a w at i b v e h g l r m q =
      let vs : List ℤ = map (cell (row xs a w)) (columns_at plan k i) in
      let here : v ≡ cell (row xs a w) (get_or plan (k + i) 0) =
      q
      ∙ ap (λ (zs : List ℤ). get_or zs (a + b) (pos 0)) e
      ∙ get_d_laid xs at vs (a + b) (pos 0) (omega arith) (omega arith)
      ∙ sym (cell_read xs a w b m)
      ∙ ap (cell (row xs a w)) r in
      set_more xs ys at i vs v e (length_projected (row xs a w) i (omega arith)) l
      ∙ ap (laid xs at)
      (ap (λ (z : ℤ). vs ++ (z ∷ [])) here
      ∙ sym (map_append (cell (row xs a w)) (columns_at plan k i) (get_or plan (k + i) 0 ∷ []))
      ∙ ap (map (cell (row xs a w))) (sym (columns_suc i g)))

  module _ (n room at a w : ℕ) (xs : List ℤ) (there : k + n ≤ length plan) where
    pub projected_full :
        room < at + n → Owes room at n (gives (map (cell (row xs a w)) (columns_at plan k n) ∷ [])) xs xs (Err Full)
    projected_full h =
        one_full room at n (map (cell (row xs a w)) (columns_at plan k n)) xs (length_projected (row xs a w) n there) h

    pub projected_laid :
        (ys : List ℤ) (i : ℕ) → at + n ≤ room → i ≡ n →
        ys ≡ laid xs at (map (cell (row xs a w)) (columns_at plan k i)) →
        Owes room at n (gives (map (cell (row xs a w)) (columns_at plan k n) ∷ [])) xs ys (Ok 1)
    projected_laid ys i h e d =
        one_laid room at n (map (cell (row xs a w)) (columns_at plan k n)) xs (length_projected (row xs a w) n there)
        ys h
        (d ∙ ap (λ (j : ℕ). laid xs at (map (cell (row xs a w)) (columns_at plan k j))) e)

-- the test that a row's column is true, made on the cell
pub column_test : (xs : List ℤ) (a w c : ℕ) (t : Bool) → c < w → t ≡ same (get_or xs (a + c) (pos 0)) true_cell
    → same (cell (row xs a w) c) true_cell ≡ t
column_test xs a w c t h e = ap (λ (z : ℤ). same z true_cell) (cell_read xs a w c h) ∙ sym e
