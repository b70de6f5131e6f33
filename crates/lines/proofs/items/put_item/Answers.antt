-- `lines::items::put_item` meets its contract, by what the cell holds.
use native.Mathlib.Omega.{arith}
use mir.Syntax.{w32}
use mir.Val.{SFits}
use mir.Facts.{to_z-of_z}
use Rattle.lines.specs.Text.{node_line}
use Rattle.pen.proofs.Putting.{pens_none, pens_as}
use Rattle.lines.proofs.Lines.{line_stray, line_integer, line_truth, line_node}
use borrow.Author.Rules.{rules}
use Rattle.lines.proofs.items.put_item.Goals as goal

pub returns-in-None : goal.returns-in-None
returns-in-None c = (
  pens_as (line_stray _ _ _ (to_z-of_z c.ranges.cell) c.item_of.ensures c.in-None.is) (pens_none _ _),
  omega arith,
)

pub returns-in-Some-Integer : goal.returns-in-Some-Integer
returns-in-Some-Integer c =
    let narrow : SFits w32 c.in-Some-Integer.z = search rules in (
      pens_as
          (line_integer _ _ _ (to_z-of_z c.ranges.cell) c.item_of.ensures _ c.in-Some-Integer.is _ _ (to_z-of_z narrow)
          c.in-Some-Integer.field-0-is)
          c.put_integer.ensures.0,
      c.put_integer.ensures.1,
    )

pub returns-in-Some-Truth : goal.returns-in-Some-Truth
returns-in-Some-Truth c = (
  pens_as
      (line_truth _ _ _ (to_z-of_z c.ranges.cell) c.item_of.ensures _ c.in-Some-Truth.is _ c.in-Some-Truth.field-0-is)
      c.put_truth.ensures.0,
  c.put_truth.ensures.1,
)

pub returns-in-Some-Node : goal.returns-in-Some-Node
unfolding node_line
returns-in-Some-Node c = (
  pens_as
      (line_node _ _ _ (to_z-of_z c.ranges.cell) c.item_of.ensures _ c.in-Some-Node.is _ c.in-Some-Node.field-0-is)
      c.put_line.ensures.0,
  omega (arith, c.put_line.ensures.1),
)
