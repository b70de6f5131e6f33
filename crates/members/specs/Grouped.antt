-- Groups by first appearance (document 01, 'Plan operators', RC, RE and RX), as a pass over the rows meets them.
--     opening t c i      row i opens a group: its cell of column c stands in no row above
--     leading p xs       how many members of xs pass p before the first that does not
--     in_front t c        column c of the first row: the cell of the group that a part of a table is looked through for
use Rattle.std.specs.Prelude.{ℕ, zero, suc, List, [], ◌∷◌, Bool, not, cond, ℤ, take}
use Rattle.cells.specs.Cell.{same}
use Rattle.laws.specs.Lists.{any}
use Rattle.meaning.specs.Operators.{Table, column}
use Rattle.tables.specs.Order.{cell_at}

abbrev pub in_front : Table → ℕ → ℤ
in_front t c = cell_at t c 0

unfoldable pub opening : Table → ℕ → ℕ → Bool
opening t c i = not (any (same (cell_at t c i)) (take i (column t c)))

unfoldable pub leading : {A : Type 0} → (A → Bool) → List A → ℕ
leading p [] = zero
leading p (x ∷ xs) = cond (p x) (suc (leading p xs)) zero
