-- Two lists of items compared, cell by cell.
--     same_cells          rows are the same exactly where their cells are, by the machine's equality
use mathlib.Core.Path.{◌≡◌, refl, sym, ap₂, ◌∙◌}
use mathlib.Core.List.{List, [], ◌∷◌}
use mathlib.Core.Bool.{Bool, true, false, ◌&&◌, false≢true}
use lib.IntN.{ℤ}
use Rattle.std.specs.Ordering.{int_eq}
use Rattle.std.specs.Cmp.Lexicographic.{pointwise}
use Rattle.std.proofs.lemmas.Bool.Decides.{Decides-int_eq}
use Rattle.cells.specs.Cell.{same}
use Rattle.cells.proofs.Cells.{eq_same, ne_same}
use Rattle.meaning.specs.Operators.{same_row}

same_cell : (x y : ℤ) → int_eq x y ≡ same x y
same_cell x y = by_test (int_eq x y) refl
  where
    by_test : (t : Bool) → int_eq x y ≡ t → t ≡ same x y
    by_test true e = sym (eq_same x y ((Decides-int_eq x y).0 e))
    by_test false e = sym (ne_same x y (λ d. false≢true (sym e ∙ (Decides-int_eq x y).1 d)))

pub same_cells : (xs ys : List ℤ) → pointwise int_eq xs ys ≡ same_row xs ys
unfolding same_row
same_cells [] [] = refl
same_cells [] (y ∷ ys) = refl
same_cells (x ∷ xs) [] = refl
same_cells (x ∷ xs) (y ∷ ys) = ap₂ (λ (a b : Bool). a && b) (same_cell x y) (same_cells xs ys)
