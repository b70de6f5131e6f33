-- `difference` meets its contract.
use mir.Facts.{to_z-of_z}
use Rattle.cells.proofs.Arithmetic.{checked}
use Rattle.cells.proofs.difference.Goals as goal

pub returns : goal.returns
returns c =
    checked _ _ (rw (to_z-of_z c.ranges.x, to_z-of_z c.ranges.y) at c.checked_sub.ensures)
