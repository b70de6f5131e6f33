-- Two rows compared cell by cell (document 01, 'Plan operators', RD).
--     rest_same xs a b w i     the rows of width w at a and b are equal from cell i on
use Rattle.std.specs.Prelude.{ℕ, ◌+◌, ◌-◌, List, Bool, ℤ}
use Rattle.laws.specs.Rows.{row}
use Rattle.meaning.specs.Operators.{same_row}

abbrev pub rest_same : List ℤ → (a b w i : ℕ) → Bool
rest_same xs a b w i = same_row (row xs (a + i) (w - i)) (row xs (b + i) (w - i))
