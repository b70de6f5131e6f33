-- `lines::put_refusal` meets its contract: a word and the number, then the line of the place.
use native.Mathlib.Omega.{arith}
use Rattle.lines.specs.Text.{refused_line}
use Rattle.pen.proofs.Putting.{pens_more}
use Rattle.pen.proofs.Digits.{decimal_end}
use Rattle.lines.proofs.put_refusal.Goals as goal

pub put_line-requires : goal.put_line-requires
put_line-requires c =
    omega (arith, c.put_word-a.ensures.ends, decimal_end _ c.put_number-b.ensures)

pub returns : goal.returns
unfolding refused_line
returns c = (
  pens_more c.put_word-a.ensures (pens_more c.put_number-b.ensures c.put_line.ensures.0),
  omega (
    arith,
    c.put_word-a.ensures.ends,
    decimal_end _ c.put_number-b.ensures,
    c.put_line.ensures.1,
  ),
)
