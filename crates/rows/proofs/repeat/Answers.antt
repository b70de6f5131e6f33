-- `rows::repeat` meets its contract: the row is copied where there is room for it.
use native.Mathlib.Omega.{arith}
use Rattle.laws.proofs.Rows.{length_row}
use Rattle.tables.proofs.Promise.{one_full, one_laid}
use Rattle.rows.proofs.repeat.Goals as goal

pub returns-then-room-at : goal.returns-then-room-at
returns-then-room-at c =
    one_full _ _ _ _ _ (length_row _ _ _ (omega arith)) (omega arith)

pub returns : goal.returns
returns c =
    one_laid _ _ _ _ _ (length_row _ _ _ (omega arith)) _ (omega arith) c.copy.ensures
