-- `rows::attach` meets its contract: the row is copied, and one cell stands behind it.
use native.Mathlib.Omega.{arith}
use mir.Facts.{to_z-of_z}
use Rattle.tables.proofs.Promise.{attached_full, attached_laid}
use Rattle.rows.proofs.attach.Goals as goal

pub returns-then-room-at : goal.returns-then-room-at
returns-then-room-at c =
    attached_full _ _ _ _ _ _ (omega arith) (omega arith)

pub returns : goal.returns
returns c =
    attached_laid _ _ _ _ _ _ (omega arith) _ _ (omega arith) (omega arith) c.copy.ensures
    (to_z-of_z c.ranges.cell)
