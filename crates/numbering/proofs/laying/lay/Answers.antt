-- `numbering::laying::lay` meets its contract: before a row is laid, what is left gives what the whole gives.
use Prim.Native.Nat.{◌+◌, ◌-◌, ◌≤◌}
use mathlib.Core.Path.{refl}
use lib.ListN.{length}
use native.Mathlib.Omega.{arith}
use Rattle.numbering.proofs.Pass.{NumberingTurn, begins, goes_on, ends, asked, row_room}
use borrow.Author.Rules.{rules}
use Rattle.numbering.proofs.laying.lay.Goals as goal

pub loop-i-init : goal.loop-i-init
loop-i-init c =
    begins _ _ _ _ _ (omega arith)

pub lay_row-requires : goal.lay_row-requires
lay_row-requires c =
    asked _ _ _ _ _ c.requires _ _ _ _ _ c.loop-i.invariant c.loop-i-test.true _ _ _ refl
    c.start.ensures
    c.counter-c.ensures

pub overflow_add-to : goal.overflow_add-to
overflow_add-to c =
    omega (arith, row_room _ _ _ _ _ c.requires _ _ _ _ _ c.loop-i.invariant c.loop-i-test.true)

pub overflow_add-to-in-loop-i : goal.overflow_add-to-in-loop-i
overflow_add-to-in-loop-i c =
    omega (arith, row_room _ _ _ _ _ c.requires _ _ _ _ _ c.loop-i.invariant c.loop-i-test.true)

pub loop-i-preserved : goal.loop-i-preserved
loop-i-preserved c =
    goes_on _ _ _ _ _ c.requires _ _ _ _ _ c.loop-i.invariant c.loop-i-test.true _ _ _ refl
    c.start.ensures
    c.counter-c.ensures
    _
    c.lay_row.ensures

pub returns : goal.returns
returns c =
    ends _ _ _ _ _ _ _ _ _ _ c.loop-i.invariant c.loop-i-test.false
