-- `numerals::byte` meets its contract: an element of the slice is a byte, and past the last there is none.
use native.Mathlib.Omega.{arith}
use Rattle.numerals.proofs.Bytes.{looks_byte, looks_end}
use Rattle.numerals.proofs.byte.Goals as goal

pub returns-then-at-text : goal.returns-then-at-text
returns-then-at-text c =
    rw c.from.ensures
    (looks_byte _ _ (omega arith) (c.type_inv.text c.args.at).fits)

pub returns-else-at-text : goal.returns-else-at-text
returns-else-at-text c =
    looks_end _ _ (omega arith)
