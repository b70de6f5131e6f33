-- `items::value_in` meets its contract, by the item's cases.
use mathlib.Core.Path.{◌∙◌, ap}
use mir.Syntax.{w32, w64}
use mir.Val.{SFits}
use mir.Facts.{to_z-of_z}
use Rattle.cells.proofs.Bits.{read_back}
use Rattle.laws.specs.Attempt.{gives}
use Rattle.meaning.specs.Catalogue.{catalogue_of}
use Rattle.meaning.specs.World.{value_in}
use Rattle.items.specs.Answers.{text_value}
use Rattle.items.proofs.Cases.{value_is}
use borrow.Author.Rules.{rules}
use Rattle.items.proofs.value_in.Goals as goal

pub returns-in-Integer : goal.returns-in-Integer
unfolding value_in
returns-in-Integer c =
    let narrow : SFits w32 c.in-Integer.z = search rules in
    ap gives (read_back w64 c.from.type_inv ∙ c.from.ensures ∙ to_z-of_z narrow)
    ∙ value_is (catalogue_of c.args.doc.now c.args.rows) _ _ c.in-Integer.is

pub returns-in-Truth : goal.returns-in-Truth
unfolding value_in
returns-in-Truth c =
    ap gives (read_back w64 c.truth_cell.type_inv ∙ c.truth_cell.ensures)
    ∙ value_is (catalogue_of c.args.doc.now c.args.rows) _ _ c.in-Truth.is

pub returns-in-Node : goal.returns-in-Node
unfolding value_in text_value
returns-in-Node c =
    c.text_value.ensures ∙ value_is (catalogue_of c.args.doc.now c.args.rows) _ _ c.in-Node.is
