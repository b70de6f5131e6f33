-- `put_node` meets its contract: the word, then the rank.
use native.Mathlib.Omega.{arith}
use Rattle.pen.proofs.Putting.{pens_more}
use Rattle.pen.proofs.Digits.{decimal_end}
use Rattle.shown_rows.proofs.put_node.Goals as goal

pub returns : goal.returns
returns c = (
  pens_more c.put_word-a.ensures c.put_number.ensures,
  omega (arith, c.put_word-a.ensures.ends, decimal_end _ c.put_number.ensures),
)
