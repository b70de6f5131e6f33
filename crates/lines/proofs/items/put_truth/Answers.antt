-- `lines::items::put_truth` meets its contract, by the boolean.
use mathlib.Core.Path.{sym, ap}
use native.Mathlib.Omega.{arith}
use Rattle.lines.specs.Text.{truth_line}
use Rattle.pen.proofs.Putting.{pens_as}
use Rattle.lines.proofs.items.put_truth.Goals as goal

pub returns-then-b : goal.returns-then-b
unfolding truth_line
returns-then-b c = (
  pens_as (sym (ap truth_line c.if-b.true)) c.put_word.ensures,
  omega (arith, c.put_word.ensures.ends),
)

pub returns-else-b : goal.returns-else-b
unfolding truth_line
returns-else-b c = (
  pens_as (sym (ap truth_line c.if-b.false)) c.put_word-else-b.ensures,
  omega (arith, c.put_word-else-b.ensures.ends),
)
