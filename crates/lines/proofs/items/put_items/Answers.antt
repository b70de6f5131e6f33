-- `lines::items::put_items` meets its contract. The invariant: the lines of the first i items stand there. The measure
-- is how many items are left.
use mathlib.Core.Path.{ap}
use native.Mathlib.Omega.{arith}
use lib.Seq.{take_all}
use borrow.Author.Rules.{rules}
use mir.Facts.{to_z-of_z}
use mir.Syntax.{w64}
use Rattle.laws.specs.Lists.{gather}
use Rattle.lines.specs.Text.{item_line}
use Rattle.pen.proofs.Putting.{pens_none, pens_more, pens_as}
use Rattle.lines.proofs.Lines.{lines_more}
use Rattle.lines.proofs.items.put_items.Goals as goal

pub loop-cell-init : goal.loop-cell-init
unfolding gather
loop-cell-init c =
    (omega arith, pens_none _ _)

pub loop-cell-preserved : goal.loop-cell-preserved
loop-cell-preserved c = (
  omega (arith, c.put_item-end.ensures.1),
  pens_as
      (lines_more c.args.cells.now c.loop-cell.cell-index _
      (to_z-of_z {w = w64} (record { sfits = search rules }))
      (omega arith))
      (pens_more c.loop-cell.invariant.1 c.put_item-end.ensures.0),
)

pub returns : goal.returns
returns c = (
  pens_as (ap (gather item_line) (take_all c.loop-cell.cell-index c.args.cells.now (omega arith)))
      c.loop-cell.invariant.1,
  omega arith,
)
