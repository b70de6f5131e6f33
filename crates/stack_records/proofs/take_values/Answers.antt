-- `take_values` meets its contract: the first cells hold their items' values.
use mathlib.Core.Path.{sym, ap, ◌∙◌}
use native.Mathlib.Omega.{arith}
use lib.IntN.{pos}
use lib.ListN.{get_or}
use mir.Syntax.{w64}
use mir.Val.{SFits}
use mir.Facts.{to_z-of_z}
use Rattle.meaning.specs.Catalogue.{catalogue_of}
use Rattle.meaning.specs.World as World
use Rattle.meaning.specs.World.{world_of}
use Rattle.stack_records.proofs.Valuing.{taking_none, taking_more, taking_stop, taking_all}
use borrow.Author.Rules.{rules}
use Rattle.stack_records.proofs.take_values.Goals as goal

pub loop-cell-init : goal.loop-cell-init
loop-cell-init c = taking_none _ _

pub returns-in_err-cell : goal.returns-in_err-cell
unfolding world_of
returns-in_err-cell c =
    let narrow : SFits w64 (get_or c.loop-cell.cells c.loop-cell.cell-index (pos 0)) = search rules in
    let fails : _ = taking_stop _ _ _ _ c.loop-cell.invariant (pos 0) (omega arith)
    (ap (World.value (catalogue_of c.args.doc.now c.args.rows)) (sym (to_z-of_z narrow)) ∙ sym c.in_err-cell.ensures) in
    rw c.from_residual.ensures fails

pub loop-cell-preserved : goal.loop-cell-preserved
unfolding world_of
loop-cell-preserved c =
    let narrow : SFits w64 (get_or c.loop-cell.cells c.loop-cell.cell-index (pos 0)) = search rules in
    let fits : SFits w64 c.in_ok-cell.field-0 = search rules in
    taking_more _ _ _ _ c.loop-cell.invariant (pos 0) (omega arith) _ _ (to_z-of_z fits)
    (ap (World.value (catalogue_of c.args.doc.now c.args.rows)) (sym (to_z-of_z narrow)) ∙ sym c.in_ok-cell.ensures)

pub returns : goal.returns
returns c = taking_all _ _ _ _ c.loop-cell.invariant (omega arith)
