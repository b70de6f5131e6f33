-- `quotient` meets its contract.
use mir.Facts.{to_z-of_z}
use Rattle.cells.proofs.Arithmetic.{checked_quotient}
use Rattle.cells.proofs.quotient.Goals as goal

pub returns : goal.returns
returns c =
    checked_quotient _ _ _ c.ranges.y (rw (to_z-of_z c.ranges.x, to_z-of_z c.ranges.y) at c.checked_div.ensures)
