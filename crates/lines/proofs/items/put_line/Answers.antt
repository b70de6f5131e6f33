-- `lines::items::put_line` meets its contract: the word, the number, the line's end.
use native.Mathlib.Omega.{arith}
use Rattle.pen.proofs.Putting.{pens_more}
use Rattle.pen.proofs.Digits.{decimal_end}
use Rattle.lines.proofs.items.put_line.Goals as goal

pub put-requires : goal.put-requires
put-requires c =
    omega (arith, c.put_word-a.ensures.ends, decimal_end _ c.put_number-b.ensures)

pub returns : goal.returns
returns c = (
  pens_more c.put_word-a.ensures (pens_more c.put_number-b.ensures c.put.ensures),
  omega (
    arith,
    c.put_word-a.ensures.ends,
    decimal_end _ c.put_number-b.ensures,
    c.put.ensures.ends,
  ),
)
