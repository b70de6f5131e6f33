-- `put_truth` meets its contract, by the boolean.
use mathlib.Core.Path.{sym, ap}
use native.Mathlib.Omega.{arith}
use Rattle.pen.proofs.Putting.{pens_as}
use Rattle.shown_rows.specs.Rows.{truth_word}
use Rattle.shown_rows.proofs.put_truth.Goals as goal

pub returns-then-b : goal.returns-then-b
returns-then-b c = (
  pens_as (sym (ap truth_word c.if-b.true)) c.put_word.ensures,
  omega (arith, c.put_word.ensures.ends),
)

pub returns-else-b : goal.returns-else-b
returns-else-b c = (
  pens_as (sym (ap truth_word c.if-b.false)) c.put_word-else-b.ensures,
  omega (arith, c.put_word-else-b.ensures.ends),
)
