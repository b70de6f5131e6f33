-- `numbering::laying::in_group` meets its contract.
use Prim.Native.Nat.{ℕ}
use mathlib.Core.Path.{sym, ap₂, ◌∙◌}
use lib.ListN.{drop}
use Rattle.cells.specs.Cell.{same}
use Rattle.meaning.specs.Operators.{cell}
use Rattle.row_order.specs.Order.{from}
use Rattle.numbering.proofs.Counting.{group_whole, group_by}
use borrow.Author.Tests.{eq-eqb}
use borrow.Author.Rules.{rules}
use Rattle.numbering.proofs.laying.in_group.Goals as goal

pub returns-then-p-eq255 : goal.returns-then-p-eq255
returns-then-p-eq255 c =
    eq-eqb _ _ c.if-p-eq255.true ∙ sym (group_whole _ _ _ c.if-p-eq255.true)

pub returns-else-p-eq255 : goal.returns-else-p-eq255
unfolding from
returns-else-p-eq255 c =
    let a = c.args in
    c.tied.ensures
    ∙ ap₂ (λ (x y : ℕ). same (cell (drop x a.work.now) a.p) (cell (drop y a.work.now) a.p))
    c.start.ensures c.start-else-p-eq255.ensures
    ∙ sym (group_by _ _ _ c.if-p-eq255.false)
