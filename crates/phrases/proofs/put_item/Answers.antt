-- `put_item` meets its contract: the item decides.
use mathlib.Core.Path.{sym, ap, ◌∙◌, subst}
use mir.Syntax.{w32}
use mir.Val.{SFits}
use mir.Facts.{to_z-of_z}
use Rattle.cells.specs.Cell.{held, cell_of}
use Rattle.cells.specs.Small.{Small}
use Rattle.pen.specs.Decimal as Pen
use Rattle.grammar.specs.Written.{item_text}
use Rattle.pen.proofs.Putting.{pens_none, pens_as}
use Rattle.phrases.proofs.Phrasing.{item_integer, item_truth, item_node}
use borrow.Author.Rules.{rules}
use Rattle.phrases.proofs.put_item.Goals as goal

pub returns-in-Integer : goal.returns-in-Integer
returns-in-Integer c =
    let narrow : SFits w32 c.in-Integer.z = search rules in
    pens_as
    (ap Pen.signed (to_z-of_z narrow)
    ∙ sym (item_integer _ narrow)
    ∙ sym (ap (λ i. item_text (held (cell_of i))) c.in-Integer.is))
    c.put_signed.ensures

pub returns-in-Truth : goal.returns-in-Truth
returns-in-Truth c =
    pens_as (sym (ap (λ i. item_text (held (cell_of i))) c.in-Truth.is ∙ item_truth _))
    c.put_truth.ensures

pub returns-in-Node : goal.returns-in-Node
returns-in-Node c =
    let told = c.in-Node.is in
    pens_as
    (sym
    (ap (λ i. item_text (held (cell_of i))) told
    ∙ item_node _ (subst Small told c.requires.0)))
    (pens_none _ _)
