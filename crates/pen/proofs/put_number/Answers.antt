-- `put_number` meets its contract: twenty digits are enough.
use native.Mathlib.Omega.{arith}
use Rattle.pen.specs.Decimal.{decimal}
use Rattle.pen.proofs.put_number.Goals as goal

pub put_digits-requires : goal.put_digits-requires
put_digits-requires c =
    omega arith

pub returns : goal.returns
unfolding decimal
returns c =
    c.put_digits.ensures
