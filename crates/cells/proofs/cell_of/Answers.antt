-- `cells::cell_of` meets its contract, by the item's cases.
use mathlib.Core.Path.{sym, ◌∙◌, ap, subst}
use borrow.Author.Rules.{rules}
use mir.Syntax.{w32, w64}
use mir.Val.{SFits}
use mir.Facts.{to_z-of_z}
use Rattle.cells.specs.Cell.{cell_of}
use Rattle.cells.specs.Small.{Small}
use Rattle.cells.proofs.Bits.{read_back}
use Rattle.cells.proofs.cell_of.Goals as goal

pub node_cell-requires : goal.node_cell-requires
node_cell-requires c =
    subst Small c.in-Node.is c.requires

pub returns-in-Integer : goal.returns-in-Integer
unfolding cell_of
returns-in-Integer c =
    let narrow : SFits w32 c.in-Integer.z = search rules in
    read_back w64 c.from.type_inv ∙ c.from.ensures ∙ to_z-of_z narrow ∙ sym (ap cell_of c.in-Integer.is)

pub returns-in-Truth : goal.returns-in-Truth
unfolding cell_of
returns-in-Truth c =
    read_back w64 c.truth_cell.type_inv
    ∙ c.truth_cell.ensures
    ∙ sym (ap cell_of c.in-Truth.is)

pub returns-in-Node : goal.returns-in-Node
unfolding cell_of
returns-in-Node c =
    read_back w64 c.node_cell.type_inv
    ∙ c.node_cell.ensures
    ∙ sym (ap cell_of c.in-Node.is)
