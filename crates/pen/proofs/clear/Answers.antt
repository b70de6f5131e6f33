-- `clear` meets its contract: the bytes from `from` on are filled with 0; past the end there is none.
use native.Mathlib.Omega.{arith}
use mathlib.Core.Path.{refl, sym}
use Rattle.pen.proofs.Penned.{cleared_filled, cleared_all}
use Rattle.pen.proofs.clear.Goals as goal

pub returns-then-from-bytes : goal.returns-then-from-bytes
returns-then-from-bytes c =
    cleared_filled _ _ _ _ (omega arith) (c.fill.ensures.after (λ y e. e))

pub returns-else-from-bytes : goal.returns-else-from-bytes
returns-else-from-bytes c =
    sym (cleared_all _ 0 _ _ c.if-from-bytes.false refl)
