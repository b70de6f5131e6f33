-- `joining::join` meets its contract. The invariant: the rows of s before row i are joined and laid (`Laying`), and
-- `from` is a place among u's rows.
use Prim.Native.Nat.{◌+◌, ◌*◌}
use mathlib.Core.Path.{◌≡◌, sym, ap, ◌∙◌}
use native.Mathlib.Omega.{arith}
use lib.IntN.{pos}
use lib.ListN.{length, get_or}
use mir.Syntax.{w64}
use mir.Val.{to_z, of_z}
use mir.Facts.{to_z-of_z}
use Rattle.laws.specs.Rows.{row}
use Rattle.meaning.specs.Operators.{Table, cell, column}
use Rattle.tables.specs.Layout.{Inside, table_at}
use Rattle.tables.proofs.Promise.{owes_is}
use Rattle.tables.proofs.Reading.{cell_read, row_inside}
use Rattle.tables.proofs.Standing.{laid_fits, table_below, inside_up}
use Rattle.tables.proofs.Laying.{counted_fits, length_laying, turns_start, turn_more, turn_stopped, turns_laid}
use Rattle.tables.specs.Order.{climbs}
use Rattle.searching.proofs.Narrowing.{narrows_cell}
use Rattle.joining.proofs.Joining.{join_each, join_settled, joined_laid}
use Rattle.joining.specs.Joined.{joined_row}
use Rattle.joining.proofs.join.Goals as goal

pub climbs-climbing-requires : goal.climbs-climbing-requires
climbs-climbing-requires c = (inside_up _ _ _ (omega arith) c.requires.1, omega arith)

pub loop-i-init : goal.loop-i-init
loop-i-init c = (omega arith, turns_start _ _ _ _ _ _ _ _ (omega arith))

pub overflow_mul-a : goal.overflow_mul-a
unfolding Inside
overflow_mul-a c =
    let here = row_inside c.loop-i.i c.args.s.rows c.args.s.width (omega arith) in
    omega (arith, here)

pub overflow_add-a : goal.overflow_add-a
unfolding Inside
overflow_add-a c =
    let here = row_inside c.loop-i.i c.args.s.rows c.args.s.width (omega arith) in
    omega (arith, here)

pub overflow_add-x : goal.overflow_add-x
unfolding Inside
overflow_add-x c =
    let here = row_inside c.loop-i.i c.args.s.rows c.args.s.width (omega arith) in
    let long : length c.loop-i.work ≡ length c.args.work.now =
    length_laying _ _ _ _ _ _ _ _ _ (omega arith) c.loop-i.invariant.1 in
    omega (arith, here, long)

pub offset_bounds-work-a : goal.offset_bounds-work-a
unfolding Inside
offset_bounds-work-a c =
    let here = row_inside c.loop-i.i c.args.s.rows c.args.s.width (omega arith) in
    let long : length c.loop-i.work ≡ length c.args.work.now =
    length_laying _ _ _ _ _ _ _ _ _ (omega arith) c.loop-i.invariant.1 in
    omega (arith, here, long)

pub slice_copy_out-x : goal.slice_copy_out-x
unfolding Inside
slice_copy_out-x c =
    let here = row_inside c.loop-i.i c.args.s.rows c.args.s.width (omega arith) in
    let long : length c.loop-i.work ≡ length c.args.work.now =
    length_laying _ _ _ _ _ _ _ _ _ (omega arith) c.loop-i.invariant.1 in
    omega (arith, here, long)

pub part-part-requires : goal.part-part-requires
part-part-requires c =
    let long : length c.loop-i.work ≡ length c.args.work.now =
    length_laying _ _ _ _ _ _ _ _ _ (omega arith) c.loop-i.invariant.1 in
    let g = c.args in
    let other : table_at c.loop-i.work g.u ≡ table_at g.work.now g.u =
    table_below _ _ _ _ c.loop-i.invariant.1.cells_are (omega arith) _ c.requires.1 in
    record {
      inside = (inside_up _ _ _ (omega (arith, long)) c.requires.1, omega arith, omega arith);
      climbing_value = c.climbs-climbing.ensures ∙ ap (λ (t : Table). climbs (column t g.d)) (sym other);
    }

pub join_part-requires : goal.join_part-requires
unfolding Inside
join_part-requires c =
    let here = row_inside c.loop-i.i c.args.s.rows c.args.s.width (omega arith) in
    let long : length c.loop-i.work ≡ length c.args.work.now =
    length_laying _ _ _ _ _ _ _ _ _ (omega arith) c.loop-i.invariant.1 in
    let g = c.args in
    let a = g.s.at + c.loop-i.i * g.s.width in
    let read : to_z w64 (of_z w64 (get_or c.loop-i.work (a + g.c) (pos 0))) ≡ cell (row c.loop-i.work a g.s.width) g.c =
    to_z-of_z {w = w64} (record { sfits = c.x-1.given }) ∙ sym (cell_read _ _ _ _ (omega arith)) in
    record {
      w_bound = (omega (arith, here), omega arith, omega (arith, long));
      inside = (inside_up _ _ _ (omega arith) c.requires.1, omega arith, omega arith);
      narrows = narrows_cell _ _ read _ _ _ _ c.part-part.ensures;
    }

pub returns-in_err-m : goal.returns-in_err-m
unfolding table_at joined_row Inside
returns-in_err-m c =
    let here = row_inside c.loop-i.i c.args.s.rows c.args.s.width (omega arith) in
    owes_is _ _ _ _ _ _ (join_each _ _ _ _ _)
    (turn_stopped _ _ _ _ _ _ _ _ _ _ _ _ _ (omega arith) c.loop-i.invariant.1 _ _ _ (omega arith)
    c.from_residual.ensures.1 (join_settled _ _ _ _ _)
    (owes_is _ _ _ _ _ _
    (joined_laid _ _ _ _ c.loop-i.invariant.1.cells_are (omega arith) _ _ _ _ _ (omega (arith, here))
    c.requires.1)
    c.in_err-m.ensures))

pub overflow_mul-top : goal.overflow_mul-top
overflow_mul-top c = omega (arith, laid_fits _ _ _ _ _ _ _ c.in_ok-m.ensures)

pub overflow_add-top : goal.overflow_add-top
overflow_add-top c = omega (arith, laid_fits _ _ _ _ _ _ _ c.in_ok-m.ensures)

pub overflow_add-n : goal.overflow_add-n
overflow_add-n c =
    omega (
      arith,
      counted_fits _ _ _ _ _ _ (omega arith) c.loop-i.invariant.1.top_is
          (laid_fits _ _ _ _ _ _ _ c.in_ok-m.ensures),
    )

pub loop-i-preserved : goal.loop-i-preserved
unfolding joined_row Inside
loop-i-preserved c =
    let here = row_inside c.loop-i.i c.args.s.rows c.args.s.width (omega arith) in (
      omega arith,
      turn_more _ _ _ _ _ _ _ _ _ _ _ _ _ (omega arith) c.loop-i.invariant.1 _ _ (omega arith)
          (owes_is _ _ _ _ _ _
          (joined_laid _ _ _ _ c.loop-i.invariant.1.cells_are (omega arith) _ _ _ _ _ (omega (arith, here))
          c.requires.1)
          c.in_ok-m.ensures),
    )

pub returns : goal.returns
unfolding table_at
returns c =
    owes_is _ _ _ _ _ _ (join_each _ _ _ _ _)
    (turns_laid _ _ _ _ _ _ _ _ _ _ _ _ _ (omega arith) c.loop-i.invariant.1 (omega arith))
