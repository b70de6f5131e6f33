-- `lines::items::put_integer` meets its contract: the word, the integer, the line's end.
use mathlib.Core.Path.{ap}
use native.Mathlib.Omega.{arith}
use mir.Facts.{to_z-of_z}
use Rattle.lines.specs.Text.{integer_line}
use Rattle.pen.proofs.Putting.{pens_more, pens_as}
use Rattle.pen.proofs.Digits.{signed_end}
use Rattle.lines.proofs.items.put_integer.Goals as goal

pub put-requires : goal.put-requires
put-requires c =
    omega (arith, c.put_word-a.ensures.ends, signed_end _ c.put_signed-b.ensures)

pub returns : goal.returns
unfolding integer_line
returns c = (
  pens_as (ap integer_line (to_z-of_z c.ranges.z))
      (pens_more c.put_word-a.ensures (pens_more c.put_signed-b.ensures c.put.ensures)),
  omega (
    arith,
    c.put_word-a.ensures.ends,
    signed_end _ c.put_signed-b.ensures,
    c.put.ensures.ends,
  ),
)
