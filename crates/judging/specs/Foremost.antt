-- The row of a group that comes first (document 01, 'Plan operators', RE).
--     least r rs     of r and the rows rs the one with the least column 1, the earliest of these
use Rattle.std.specs.Prelude.{[], ◌∷◌, cond}
use Rattle.cells.specs.Cell.{before}
use Rattle.meaning.specs.Operators.{Row, Table, cell}

unfoldable pub least : Row → Table → Row
least r [] = r
least r (q ∷ t) = least (cond (before (cell q 1) (cell r 1)) q r) t
