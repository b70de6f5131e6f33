-- `cells::before` meets its contract.
use mathlib.Core.Path.{ap₂}
use lib.Signed.{lt_z}
use mir.Facts.{to_z-of_z}
use Rattle.cells.specs.Cell.{before}
use Rattle.cells.proofs.before.Goals as goal

pub returns : goal.returns
unfolding before
returns c =
    ap₂ lt_z (to_z-of_z c.ranges.a) (to_z-of_z c.ranges.b)
