-- `put_signed` meets its contract, by the integer's sign.
use mir.Facts.{to_z-of_z}
use Rattle.pen.proofs.Putting.{pens_more, pens_as}
use Rattle.pen.proofs.Magnitudes.{signed_minus, signed_plain}
use Rattle.pen.proofs.put_signed.Goals as goal

pub returns-then-z-lt0 : goal.returns-then-z-lt0
returns-then-z-lt0 c =
    pens_as
    (signed_minus _ _ _ (to_z-of_z c.ranges.z) c.unsigned_abs-far.ensures.value
    c.if-z-lt0.true)
    (pens_more c.put-a.ensures c.put_number.ensures)

pub returns : goal.returns
returns c =
    pens_as
    (signed_plain _ _ _ (to_z-of_z c.ranges.z) c.unsigned_abs-far.ensures.value
    c.if-z-lt0.false)
    c.put_number-2.ensures
