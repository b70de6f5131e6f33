-- `put` meets its contract: the room decides, and the item is laid at the top.
use mathlib.Core.Path.{refl}
use native.Mathlib.Omega.{arith}
use mir.Facts.{to_z-of_z}
use Rattle.stack.proofs.Leaving.{leaves_crowded, leaves_added, put_at}
use Rattle.stack.proofs.put.Goals as goal

pub returns-then-top-room : goal.returns-then-top-room
returns-then-top-room c =
    leaves_crowded _ _ _ _ _ _ _ c.requires (omega arith)

pub returns : goal.returns
returns c =
    leaves_added _ _ _ _ _ _ _ c.requires _ _ (omega (arith, c.requires.low))
    (put_at _ _ _ _ (to_z-of_z c.ranges.cell) (omega (arith, c.requires.low, c.requires.lent))) refl refl (λ e h. h)
