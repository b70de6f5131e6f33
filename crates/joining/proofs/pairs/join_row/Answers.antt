-- `joining::pairs::join_row` meets its contract. The invariant: the rows of s before row i are joined and laid
-- (`Laying`).
use mathlib.Core.Path.{◌≡◌, sym}
use native.Mathlib.Omega.{arith}
use lib.ListN.{length}
use Rattle.tables.specs.Layout.{Inside, table_at}
use Rattle.tables.specs.Laying.{Settled}
use Rattle.tables.proofs.Promise.{owes_is}
use Rattle.tables.proofs.Reading.{row_inside}
use Rattle.tables.proofs.Standing.{laid_fits}
use Rattle.tables.proofs.Laying.{counted_fits, length_laying, turns_start, turn_more, turn_stopped, turns_laid}
use Rattle.joining.proofs.Joined.{each_join, join_same}
use Rattle.joining.proofs.pairs.join_row.Goals as goal

pub loop-i-init : goal.loop-i-init
loop-i-init c = turns_start _ _ _ _ _ _ _ _ (omega arith)

pub overflow_mul-b : goal.overflow_mul-b
unfolding Inside
overflow_mul-b c = omega (arith, row_inside c.loop-i.i c.args.s.rows c.args.s.width (omega arith))

pub overflow_add-b : goal.overflow_add-b
unfolding Inside
overflow_add-b c = omega (arith, row_inside c.loop-i.i c.args.s.rows c.args.s.width (omega arith))

pub join_pair-requires : goal.join_pair-requires
unfolding Inside
join_pair-requires c =
    let here = row_inside c.loop-i.i c.args.s.rows c.args.s.width (omega arith) in
    let long : length c.loop-i.work ≡ length c.args.work.now =
    length_laying _ _ _ _ _ _ _ _ _ (omega arith) c.loop-i.invariant in
    omega (arith, here, long)

pub returns-in_err-m : goal.returns-in_err-m
unfolding Settled table_at Inside
returns-in_err-m c =
    let here = row_inside c.loop-i.i c.args.s.rows c.args.s.width (omega arith) in
    owes_is _ _ _ _ _ _ (sym (each_join _ _ _ _))
    (turn_stopped _ _ _ _ _ _ _ _ _ _ _ _ _ (omega arith) c.loop-i.invariant _ _ _ (omega arith)
    c.from_residual.ensures.1
    (_, each_join _ _ _ _)
    (owes_is _ _ _ _ _ _
    (join_same _ _ _ _ _ _ _ _ _ _ c.loop-i.invariant.cells_are (omega arith) (omega (arith, here)) (omega arith))
    c.in_err-m.ensures))

pub overflow_add-top : goal.overflow_add-top
unfolding Inside
overflow_add-top c = omega (arith, row_inside c.loop-i.i c.args.s.rows c.args.s.width (omega arith))

pub overflow_mul-top : goal.overflow_mul-top
overflow_mul-top c = omega (arith, laid_fits _ _ _ _ _ _ _ c.in_ok-m.ensures)

pub overflow_add-top-in-loop-i : goal.overflow_add-top-in-loop-i
overflow_add-top-in-loop-i c = omega (arith, laid_fits _ _ _ _ _ _ _ c.in_ok-m.ensures)

pub overflow_add-n : goal.overflow_add-n
overflow_add-n c =
    omega (
      arith,
      counted_fits _ _ _ _ _ _ (omega arith) c.loop-i.invariant.top_is
          (laid_fits _ _ _ _ _ _ _ c.in_ok-m.ensures),
    )

pub loop-i-preserved : goal.loop-i-preserved
unfolding Inside
loop-i-preserved c =
    let here = row_inside c.loop-i.i c.args.s.rows c.args.s.width (omega arith) in
    turn_more _ _ _ _ _ _ _ _ _ _ _ _ _ (omega arith) c.loop-i.invariant _ _ (omega arith)
    (owes_is _ _ _ _ _ _
    (join_same _ _ _ _ _ _ _ _ _ _ c.loop-i.invariant.cells_are (omega arith) (omega (arith, here)) (omega arith))
    c.in_ok-m.ensures)

pub returns : goal.returns
unfolding table_at
returns c =
    owes_is _ _ _ _ _ _ (sym (each_join _ _ _ _))
    (turns_laid _ _ _ _ _ _ _ _ _ _ _ _ _ (omega arith) c.loop-i.invariant (omega arith))
