-- What the row-wise operators do with one row (document 01, 'Plan operators').
--     made plan c xs task r   the rows that a task makes of row r; xs are the cells, `plan` holds its columns
--     wider w task            the width of those rows, for a row of width w
--     Suits plan top w task   the task's columns are columns, and its second table stands below `top`
--     Worked w task           the columns that a cell is worked out from are columns
--     settling c task r       the task does not fail on row r
use Rattle.std.specs.Prelude.{ℕ, ◌+◌, ◌≤◌, ◌<◌, ◌≡◌, List, [], ◌∷◌, ◌++◌, map, Bool, true, cond, ℤ, length}
use Rattle.cells.specs.Cell.{same, true_cell}
use Rattle.laws.specs.Lists.{any}
use Rattle.laws.specs.Attempt.{Attempt, gives, attempt}
use Rattle.meaning.specs.Catalogue.{Catalogue}
use Rattle.meaning.specs.World.{arith, value}
use Rattle.meaning.specs.Plan.{columns_at, columns}
use Rattle.meaning.specs.Operators.{Row, Table, cell, same_row}
use Rattle.tables.specs.Layout.{table_at, Inside}
use Rattle.tables.specs.Laying.{succeeds}
use Rattle.rowwise.specs.declared.Task.{Task}
use Rattle.rowwise.specs.declared.Task.TheVariants.{Attach, Project, Minus, Select, Apply, Value}

unfoldable pub made : List ℕ → Catalogue → List ℤ → Task → Row → Attempt Table
made plan c xs (Attach z) r = gives ((r ++ (z ∷ [])) ∷ [])
made plan c xs (Project n k) r = gives (map (cell r) (columns_at plan k n) ∷ [])
made plan c xs (Minus s) r = gives (cond (any (same_row r) (table_at xs s)) [] (r ∷ []))
made plan c xs (Select k) r = gives (cond (same (cell r k) true_cell) (r ∷ []) [])
made plan c xs (Apply f k d) r = attempt (arith f (cell r k) (cell r d)) (λ z. gives ((r ++ (z ∷ [])) ∷ []))
made plan c xs (Value k) r = attempt (value c (cell r k)) (λ z. gives ((r ++ (z ∷ [])) ∷ []))

unfoldable pub wider : ℕ → Task → ℕ
wider w (Attach z) = w + 1
wider w (Project n k) = n
wider w (Minus s) = w
wider w (Select k) = w
wider w (Apply f k d) = w + 1
wider w (Value k) = w + 1

unfoldable pub Suits : List ℕ → ℕ → ℕ → Task → Type 0
Suits plan top w (Attach z) = Unit {0}
Suits plan top w (Project n k) = (k + n ≤ length plan) × (columns w (columns_at plan k n) ≡ true)
Suits plan top w (Minus s) = Inside top s × (s.width ≡ w)
Suits plan top w (Select k) = k < w
Suits plan top w (Apply f k d) = (k < w) × (d < w)
Suits plan top w (Value k) = k < w

-- only RF fails on a row
unfoldable pub settling : Catalogue → Task → Row → Bool
settling c (Attach z) r = true
settling c (Project n k) r = true
settling c (Minus s) r = true
settling c (Select k) r = true
settling c (Apply f k d) r = succeeds (arith f (cell r k) (cell r d))
settling c (Value k) r = succeeds (value c (cell r k))

-- the columns that a cell is worked out from are columns
unfoldable pub Worked : ℕ → Task → Type 0
Worked w (Attach z) = Unit {0}
Worked w (Project n k) = Unit {0}
Worked w (Minus s) = Unit {0}
Worked w (Select k) = Unit {0}
Worked w (Apply f k d) = (k < w) × (d < w)
Worked w (Value k) = k < w
