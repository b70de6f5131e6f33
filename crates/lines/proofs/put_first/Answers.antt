-- `lines::put_first` meets its contract, by what was told.
use native.Mathlib.Omega.{arith}
use lib.IntN.{ℤ}
use lib.ListN.{length-take}
use Rattle.lines.specs.Text.{items_line}
use Rattle.pen.proofs.Putting.{pens_more, pens_as}
use Rattle.lines.proofs.Lines.{first_gave, first_refused}
use Rattle.lines.proofs.put_first.Goals as goal

pub returns-in-Ok : goal.returns-in-Ok
unfolding items_line
returns-in-Ok c = (
  pens_as (first_gave _ _ _ c.in-Ok.is) (pens_more c.put_line-a.ensures.0 c.put_items.ensures.0),
  rw c.in-Ok.is (omega (arith, length-take {A = ℤ})),
)

pub returns-in-Err : goal.returns-in-Err
returns-in-Err c =
    (pens_as (first_refused _ _ _ c.in-Err.is) c.put_refusal.ensures.0, rw c.in-Err.is (omega arith))
