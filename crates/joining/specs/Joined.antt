-- A row joined with the rows of a table (document 01, 'Plan operators', RJ).
--     join_one r k d q          row r joined with row q, where column k of r holds the cell of column d of q
--     joined_row xs u c d r     row r joined with each row of the table u whose column d holds the cell of r's column c
use Rattle.std.specs.Prelude.{ℕ, List, [], ◌∷◌, ◌++◌, map, cond, ℤ}
use Rattle.cells.specs.Cell.{same}
use Rattle.laws.specs.Lists.{filter}
use Rattle.laws.specs.Attempt.{Attempt, gives}
use Rattle.meaning.specs.Operators.{Row, Table, cell}
use Rattle.tables.specs.declared.Stand.{Stand}
use Rattle.tables.specs.Layout.{table_at}

unfoldable pub join_one : Row → ℕ → ℕ → Row → Attempt Table
join_one r k d q = gives (cond (same (cell r k) (cell q d)) ((r ++ q) ∷ []) [])

unfoldable pub joined_row : List ℤ → Stand → ℕ → ℕ → Row → Attempt Table
joined_row xs u c d r =
    gives (map (λ (q : Row). r ++ q) (filter (λ (q : Row). same (cell r c) (cell q d)) (table_at xs u)))
