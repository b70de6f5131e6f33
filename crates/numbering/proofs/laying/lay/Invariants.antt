-- `numbering::laying::lay` meets its contract: before a row is laid, what is left gives what the whole gives.
use Prim.Native.Nat.{◌+◌, ◌-◌, ◌≤◌}
use mathlib.Core.Path.{refl}
use lib.ListN.{length}
use native.Mathlib.Omega.{arith}
use Rattle.numbering.proofs.Pass.{NumberingTurn, begins, goes_on, ends, asked, row_room}
use borrow.Author.Rules.{rules}
use Rattle.numbering.proofs.laying.lay.Given as goal

abbrev pub invariant-loop-i : goal.invariant-loop-i
invariant-loop-i l =
    NumberingTurn l.initial.work l.s l.p l.order l.at l.work l.to l.c l.last l.i
