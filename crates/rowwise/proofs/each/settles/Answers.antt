-- `rowwise::each::settles` meets its contract. The invariant: the task fails on none of the rows so far.
use mathlib.Core.Path.{sym, ◌∙◌}
use native.Mathlib.Omega.{arith}
use Rattle.tables.specs.Layout.{Inside}
use Rattle.tables.proofs.Reading.{row_inside}
use Rattle.tables.proofs.Unrolled.{all_pass, one_fails}
use Rattle.rowwise.proofs.each.settles.Goals as goal

pub overflow_mul-a : goal.overflow_mul-a
unfolding Inside
overflow_mul-a c = omega (arith, row_inside c.loop-i.i c.args.s.rows c.args.s.width (omega arith))

pub overflow_add-a : goal.overflow_add-a
unfolding Inside
overflow_add-a c = omega (arith, row_inside c.loop-i.i c.args.s.rows c.args.s.width (omega arith))

pub settles_row-requires : goal.settles_row-requires
unfolding Inside
settles_row-requires c =
    (omega (arith, row_inside c.loop-i.i c.args.s.rows c.args.s.width (omega arith)), omega arith, c.requires.2)

pub returns-then-not-settles_row : goal.returns-then-not-settles_row
returns-then-not-settles_row c =
    one_fails _ c.args.work.now c.args.s c.loop-i.i (omega arith)
    (sym c.settles_row.ensures ∙ c.if-not-settles_row.true)

pub returns : goal.returns
returns c = all_pass _ c.args.work.now c.args.s (λ j h. c.loop-i.invariant j (omega arith))
