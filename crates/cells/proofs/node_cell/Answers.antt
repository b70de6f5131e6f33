-- `cells::node_cell` meets its contract: the rank is small, so that the sum fits.
use mathlib.Core.Path.{◌≡◌, ◌∙◌, ap}
use Prim.Native.Nat.{ℕ, ◌<◌}
use native.Mathlib.Omega.{arith}
use lib.IntN.{ℤ, pos, ◌+ℤ◌}
use mir.Syntax.{w64}
use mir.Val.{to_z, SFits}
use mir.Facts.{to_z_pos, to_z-of_z}
use Rattle.cells.specs.Cell.{node_cell}
use Rattle.cells.proofs.node_cell.Goals as goal

sum : (n : ℕ) → n < 65536 → pos 0x2_0000_0000 +ℤ to_z w64 n ≡ node_cell n
sum n h = ap (λ (z : ℤ). pos 0x2_0000_0000 +ℤ z) (to_z_pos w64 (omega arith))

sum_fits : (n : ℕ) → n < 65536 → SFits w64 (pos 0x2_0000_0000 +ℤ to_z w64 n)
sum_fits n h = rw (sum n h) (record { sfits = omega arith })

pub overflow_cast-result : goal.overflow_cast-result
overflow_cast-result c =
    record { sfits = omega arith }

pub overflow_add-result : goal.overflow_add-result
overflow_add-result c =
    sum_fits _ c.requires

pub returns : goal.returns
returns c =
    to_z-of_z (sum_fits _ c.requires) ∙ sum _ c.requires
