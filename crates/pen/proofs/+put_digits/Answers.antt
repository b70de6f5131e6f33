-- `put_digits` meets its contract: the digits before the last by the function's own promise, then the last. The measure
-- is how many digits are left.
use native.Mathlib.Omega.{arith}
use Rattle.pen.proofs.Putting.{pens_none, pens_more, pens_as}
use Rattle.pen.proofs.Digits.{digits_none, digits_one, digits_more, digits_end}
use Rattle.pen.proofs.+put_digits.Goals as goal

pub returns-then-left-eq0 : goal.returns-then-left-eq0
returns-then-left-eq0 t c =
    pens_as (digits_none _ _ c.if-left-eq0.true) (pens_none _ _)

pub returns-then-n-lt10 : goal.returns-then-n-lt10
returns-then-n-lt10 t c =
    pens_as (digits_one _ _ _ (omega arith) (omega arith) c.digit.ensures) c.put.ensures

pub put-requires-2 : goal.put-requires-2
put-requires-2 t c =
    omega (arith, digits_end _ _ c.put_digits-end.ensures)

pub returns : goal.returns
returns t c =
    pens_as (digits_more _ _ _ (omega arith) (omega arith) c.digit-2.ensures)
    (pens_more c.put_digits-end.ensures c.put-2.ensures)
