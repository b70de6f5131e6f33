-- `put_row` meets its contract. The invariant: the first i cells stand in their columns.
use native.Mathlib.Omega.{arith}
use mir.Facts.{to_z-of_z}
use Rattle.pen.proofs.Putting.{pens_none, pens_more, pens_as}
use Rattle.lines.proofs.Putting.{put_penned}
use Rattle.shown_rows.proofs.Lining.{columns_more, row_whole}
use Rattle.laws.specs.Lists.{gather}
use borrow.Author.Rules.{rules}
use mir.Syntax.{w64}
use Rattle.shown_rows.proofs.put_row.Goals as goal

pub loop-cell-init : goal.loop-cell-init
unfolding gather
loop-cell-init c =
    (omega arith, pens_none _ _)

pub loop-cell-preserved : goal.loop-cell-preserved
loop-cell-preserved c = (
  omega (arith, c.put_column-end.ensures.1),
  pens_as
      (columns_more c.args.row.now c.loop-cell.cell-index _
      (to_z-of_z {w = w64} (record { sfits = search rules }))
      (omega arith))
      (pens_more c.loop-cell.invariant.1 c.put_column-end.ensures.0),
)

pub returns : goal.returns
returns c =
    put_penned _ _ _ _ _ (omega (arith, c.put.ensures.ends))
    (pens_as (row_whole c.args.row.now c.loop-cell.cell-index (omega arith))
    (pens_more c.loop-cell.invariant.1 c.put.ensures))
