-- The cells of a column, and their order.
--     cell_at t c i        column c of row i of table t
--     each_next p xs       every cell of xs and the next pass p
--     rises xs             every cell of xs stands before the next
--     climbs xs            every cell of xs is equal to or before the next
use Rattle.std.specs.Prelude.{ℕ, List, [], ◌∷◌, Bool, true, not, ◌&&◌, ℤ, get_or}
use Rattle.cells.specs.Cell.{before}
use Rattle.meaning.specs.Operators.{Table, cell}

abbrev pub cell_at : Table → ℕ → ℕ → ℤ
cell_at t c i = cell (get_or t i []) c

unfoldable pub each_next : (ℤ → ℤ → Bool) → List ℤ → Bool
each_next p [] = true
each_next p (x ∷ []) = true
each_next p (x ∷ y ∷ ys) = p x y && each_next p (y ∷ ys)

unfoldable pub rises : List ℤ → Bool
rises xs = each_next before xs

unfoldable pub climbs : List ℤ → Bool
climbs xs = each_next (λ x y. not (before y x)) xs
