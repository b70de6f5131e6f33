-- `truth` meets its contract: no item, or the first one and whether it is alone.
use mathlib.Core.Path.{◌≡◌, sym, ◌∙◌, ap}
use lib.IntN.{pos}
use lib.ListN.{get_or}
use native.Mathlib.Omega.{arith}
use mir.Syntax.{w64}
use mir.Facts.{to_z-of_z}
use borrow.Author.Tests.{eqb-true, eqb-false}
use Rattle.cells.specs.Cell.{held}
use Rattle.items.proofs.Cases.{truth_none, truth_stray, truth_first}
use Rattle.items.proofs.truth.Goals as goal

pub returns-then-is_empty : goal.returns-then-is_empty
returns-then-is_empty c =
    truth_none _ (eqb-true _ _ (sym c.is_empty.ensures ∙ c.if-is_empty.true))

pub returns-in_err-item : goal.returns-in_err-item
returns-in_err-item c =
    let holds : c.item_of.result ≡ held (get_or c.args.items.now 0 (pos 0)) =
    c.item_of.ensures ∙ ap held (to_z-of_z {w = w64} (record { sfits = c.item_of-arg-1.given })) in
    let some = eqb-false _ _ (sym c.is_empty.ensures ∙ c.if-is_empty.false) in
    rw c.from_residual.ensures (truth_stray _ (omega (arith, some)) (sym holds ∙ c.in_err-item.was))

pub returns : goal.returns
returns c =
    let holds : c.item_of.result ≡ held (get_or c.args.items.now 0 (pos 0)) =
    c.item_of.ensures ∙ ap held (to_z-of_z {w = w64} (record { sfits = c.item_of-arg-1.given })) in
    let some = eqb-false _ _ (sym c.is_empty.ensures ∙ c.if-is_empty.false) in
    c.truth_from.ensures ∙ truth_first _ _ (omega (arith, some)) (sym holds ∙ c.in_ok-item.was)
