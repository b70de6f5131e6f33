-- `rowwise::each::each_row` meets its contract. The invariant: row i begins at a, and what the task makes of the rows
-- before it is laid (`Laying`).
use Prim.Native.Nat.{◌+◌, ◌*◌, ◌≤◌}
use mathlib.Core.Path.{◌≡◌, sym}
use native.Mathlib.Nat.{suc-mul}
use native.Mathlib.Omega.{arith}
use lib.ListN.{length}
use Rattle.tables.specs.Layout.{Inside, table_at}
use Rattle.rowwise.specs.Tasks.{Suits}
use Rattle.tables.proofs.Promise.{owes_is, owes_wide}
use Rattle.tables.proofs.Reading.{row_inside}
use Rattle.tables.proofs.Standing.{laid_fits}
use Rattle.tables.proofs.Laying.{counted_fits, length_laying, turns_start, turn_more, turn_stopped, turns_laid}
use Rattle.rowwise.proofs.Tasks.{suits_up, made_laid}
use Rattle.rowwise.proofs.each.each_row.Goals as goal

pub wider-step-requires : goal.wider-step-requires
wider-step-requires c = c.requires.bound.1

pub loop-i-init : goal.loop-i-init
loop-i-init c = (omega arith, turns_start _ _ _ _ _ _ _ _ (omega arith))

pub overflow_add-a : goal.overflow_add-a
unfolding Inside
overflow_add-a c =
    let here = row_inside c.loop-i.i c.args.s.rows c.args.s.width (omega arith) in
    omega (arith, here, c.loop-i.invariant.0)

pub lay_row-requires : goal.lay_row-requires
unfolding Inside
lay_row-requires c =
    let here = row_inside c.loop-i.i c.args.s.rows c.args.s.width (omega arith) in
    let long : length c.loop-i.work ≡ length c.args.work.now =
    length_laying _ _ _ _ _ _ _ _ _ (omega arith) c.loop-i.invariant.1 in
    let g = c.args in
    let suits : Suits g.plan.now c.loop-i.top g.s.width g.task =
    suits_up _ _ _ _ _ (omega (arith, c.loop-i.invariant.1.top_is)) c.requires.suits in
    record { w_bound = (omega (arith, here, c.loop-i.invariant.0), omega arith, omega (arith, long)); rows_in_bounds = (omega arith, suits) }

pub returns-in_err-m : goal.returns-in_err-m
unfolding table_at Inside
returns-in_err-m c =
    let here = row_inside c.loop-i.i c.args.s.rows c.args.s.width (omega arith) in
    owes_wide _ _ _ _ _ _ _ _ c.wider-step.ensures
    (turn_stopped _ _ _ _ _ _ _ _ _ _ _ _ _ (omega arith) c.loop-i.invariant.1 _ _ _ (omega arith)
    c.from_residual.ensures.1 c.requires.settled
    (owes_wide _ _ _ _ _ _ _ _ (sym c.wider-step.ensures)
    (owes_is _ _ _ _ _ _
    (made_laid _ _ _ _ _ (omega arith) _ _ _ _ c.loop-i.invariant.1.cells_are (omega (arith, here)) c.requires.suits)
    (rw c.loop-i.invariant.0 at c.in_err-m.ensures))))

pub overflow_mul-top : goal.overflow_mul-top
overflow_mul-top c =
    let fits : c.loop-i.top + c.in_ok-m.m * c.wider-step.result ≤ c.args.room =
    rw c.wider-step.ensures (laid_fits _ _ _ _ _ _ _ c.in_ok-m.ensures) in
    omega arith

pub overflow_add-top : goal.overflow_add-top
overflow_add-top c =
    let fits : c.loop-i.top + c.in_ok-m.m * c.wider-step.result ≤ c.args.room =
    rw c.wider-step.ensures (laid_fits _ _ _ _ _ _ _ c.in_ok-m.ensures) in
    omega arith

pub overflow_add-n : goal.overflow_add-n
overflow_add-n c =
    let fits : c.loop-i.top + c.in_ok-m.m * c.wider-step.result ≤ c.args.room =
    rw c.wider-step.ensures (laid_fits _ _ _ _ _ _ _ c.in_ok-m.ensures) in
    omega (
      arith,
      counted_fits _ _ _ _ _ _ (omega (arith, c.wider-step.ensures, c.requires.bound.0)) c.loop-i.invariant.1.top_is
          fits,
    )

pub loop-i-preserved : goal.loop-i-preserved
unfolding Inside
loop-i-preserved c =
    let here = row_inside c.loop-i.i c.args.s.rows c.args.s.width (omega arith) in
    let laid = rw c.loop-i.invariant.0 at c.in_ok-m.ensures in (
      omega (arith, c.loop-i.invariant.0, suc-mul c.loop-i.i c.args.s.width),
      turn_more _ _ _ _ _ _ _ _ _ _ _ _ _ (omega arith) c.loop-i.invariant.1 _ _ (omega arith)
          (owes_wide _ _ _ _ _ _ _ _ (sym c.wider-step.ensures)
          (owes_is _ _ _ _ _ _
          (made_laid _ _ _ _ _ (omega arith) _ _ _ _ c.loop-i.invariant.1.cells_are (omega (arith, here))
          c.requires.suits)
          laid)),
    )

pub returns : goal.returns
unfolding table_at
returns c =
    owes_wide _ _ _ _ _ _ _ _ c.wider-step.ensures
    (turns_laid _ _ _ _ _ _ _ _ _ _ _ _ _ (omega arith) c.loop-i.invariant.1 (omega arith))
