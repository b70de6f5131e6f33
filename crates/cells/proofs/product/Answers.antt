-- `product` meets its contract.
use mir.Facts.{to_z-of_z}
use Rattle.cells.proofs.Arithmetic.{checked}
use Rattle.cells.proofs.product.Goals as goal

pub returns : goal.returns
returns c =
    checked _ _ (rw (to_z-of_z c.ranges.x, to_z-of_z c.ranges.y) at c.checked_mul.ensures)
