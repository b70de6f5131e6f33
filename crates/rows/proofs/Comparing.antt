-- Two rows compared cell by cell (RD).
--     cells_all                     the rows from their first cell on
--     cells_same, cells_differ      one cell is equal, or is not
--     cells_through                 all cells are passed
use Prim.Native.Nat.{ℕ, suc, ◌+◌, ◌-◌, ◌≤◌, ◌<◌}
use mathlib.Core.Path.{◌≡◌, ap, ap₂, ◌∙◌}
use mathlib.Core.List.{List}
use mathlib.Core.Bool.{Bool, true, false, ◌&&◌}
use native.Mathlib.Omega.{arith}
use native.Mathlib.Nat.{add-zero, sub-zero}
use lib.IntN.{ℤ, pos}
use lib.ListN.{length, get_or}
use Rattle.cells.specs.Cell.{same}
use Rattle.laws.specs.Rows.{row}
use Rattle.meaning.specs.Operators.{same_row}
use Rattle.tables.proofs.Unrolled.{row_head}
use Rattle.rows.specs.Comparing.{rest_same}

module _ (xs : List ℤ) (a b w : ℕ) where
  pub cells_all : rest_same xs a b w 0 ≡ same_row (row xs a w) (row xs b w)
  cells_all = simp (add-zero, sub-zero)

  module _ (i : ℕ) (here : i < w) (insideA : a + w ≤ length xs) (insideB : b + w ≤ length xs) where
    cells_split :
        rest_same xs a b w i ≡ (same (get_or xs (a + i) (pos 0)) (get_or xs (b + i) (pos 0))
        && rest_same xs a b w (i + 1))
    unfolding same_row
    cells_split =
        let e : w - i ≡ suc (w - (i + 1)) = omega arith in
        let f : suc (a + i) ≡ a + (i + 1) = omega arith in
        let g : suc (b + i) ≡ b + (i + 1) = omega arith in
        ap (λ (n : ℕ). same_row (row xs (a + i) n) (row xs (b + i) n)) e
        ∙ ap₂ same_row (row_head xs (a + i) (w - (i + 1)) (pos 0) (omega arith))
        (row_head xs (b + i) (w - (i + 1)) (pos 0) (omega arith))
        ∙ ap₂ (λ (m n : ℕ). same (get_or xs (a + i) (pos 0)) (get_or xs (b + i) (pos 0))
        && same_row (row xs m (w - (i + 1))) (row xs n (w - (i + 1)))) f g

    pub cells_same :
        same (get_or xs (a + i) (pos 0)) (get_or xs (b + i) (pos 0)) ≡ true
        → rest_same xs a b w i ≡ rest_same xs a b w (i + 1)
    cells_same e = cells_split ∙ ap (λ (t : Bool). t && rest_same xs a b w (i + 1)) e

    pub cells_differ :
        same (get_or xs (a + i) (pos 0)) (get_or xs (b + i) (pos 0)) ≡ false → rest_same xs a b w i ≡ false
    cells_differ e = cells_split ∙ ap (λ (t : Bool). t && rest_same xs a b w (i + 1)) e

  pub cells_through : (i : ℕ) → i ≡ w → rest_same xs a b w i ≡ true
  unfolding same_row row
  cells_through i e =
      let z : w - i ≡ 0 = omega arith in
      ap (λ (n : ℕ). same_row (row xs (a + i) n) (row xs (b + i) n)) z
