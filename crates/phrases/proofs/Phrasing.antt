-- What the texts of records lean on.
--     item_integer, item_truth, item_node     a literal's text, by its item
use mathlib.Core.Path.{◌≡◌, ap}
use mathlib.Core.List.{[]}
use mathlib.Core.Bool.{Bool}
use mir.Syntax.{w32}
use mir.Val.{SFits}
use lib.IntN.{ℤ}
use Rattle.cells.specs.declared.Rank.{Rank}
use Rattle.cells.specs.declared.Item.TheVariants.{Integer, Truth, Node}
use Rattle.cells.specs.Cell.{held, cell_of}
use Rattle.cells.specs.Small.{Small}
use Rattle.cells.proofs.Cells.{held_cell_of}
use Rattle.cells.proofs.Holding.{mag_range}
use Rattle.pen.specs.Decimal as Pen
use Rattle.grammar.specs.Written.{truth_text, item_text}

pub item_integer : (z : ℤ) → SFits w32 z → item_text (held (cell_of (Integer z))) ≡ Pen.signed z
unfolding item_text
item_integer z h = ap item_text (held_cell_of (Integer z) (mag_range z h.sfits))

pub item_truth : (b : Bool) → item_text (held (cell_of (Truth b))) ≡ truth_text b
unfolding item_text
item_truth b = ap item_text (held_cell_of (Truth b) tt)

pub item_node : (r : Rank) → Small (Node r) → item_text (held (cell_of (Node r))) ≡ []
unfolding item_text
item_node r h = ap item_text (held_cell_of (Node r) h)
