-- `cells::in_range` meets its contract.
use mathlib.Core.Path.{sym, ◌∙◌, ap}
use lib.IntN.{ℤ, pos}
use lib.Signed.{lt_z}
use mir.Facts.{to_z-of_z}
use Rattle.cells.proofs.Holding.{below_range, from_range}
use Rattle.cells.proofs.in_range.Goals as goal

pub returns-then-z-ltminus2147483648 : goal.returns-then-z-ltminus2147483648
returns-then-z-ltminus2147483648 c =
    sym (below_range _ (rw (to_z-of_z c.ranges.z) at c.if-z-ltminus2147483648.true))

pub returns-else-z-ltminus2147483648 : goal.returns-else-z-ltminus2147483648
returns-else-z-ltminus2147483648 c =
    ap (λ (z : ℤ). lt_z z (pos 0x8000_0000)) (to_z-of_z c.ranges.z)
    ∙ from_range _ (rw (to_z-of_z c.ranges.z) at c.if-z-ltminus2147483648.false)
