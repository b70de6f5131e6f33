-- `lines::put_verdict` meets its contract, by the verdict.
use mathlib.Core.Path.{sym, ap}
use native.Mathlib.Omega.{arith}
use Rattle.lines.specs.Text.{same_line}
use Rattle.pen.proofs.Putting.{pens_as}
use Rattle.lines.proofs.put_verdict.Goals as goal

pub returns-in-Agree : goal.returns-in-Agree
unfolding same_line
returns-in-Agree c = (
  pens_as (sym (ap same_line c.in-Agree.is)) c.put_word.ensures,
  omega (arith, c.put_word.ensures.ends),
)

pub returns-in-Differ : goal.returns-in-Differ
unfolding same_line
returns-in-Differ c = (
  pens_as (sym (ap same_line c.in-Differ.is)) c.put_word-in-Differ.ensures,
  omega (arith, c.put_word-in-Differ.ensures.ends),
)

pub returns-in-Room : goal.returns-in-Room
unfolding same_line
returns-in-Room c = (
  pens_as (sym (ap same_line c.in-Room.is)) c.put_word-in-Room.ensures,
  omega (arith, c.put_word-in-Room.ensures.ends),
)
