-- `members::part` meets its contract: all rows from row i on, or those that hold its cell.
use mathlib.Core.Path.{sym, ◌∙◌}
use native.Mathlib.Omega.{arith}
use Rattle.tables.specs.Layout.{Inside}
use Rattle.tables.proofs.Reading.{row_inside}
use Rattle.members.proofs.Parts.{left_has, run_has}
use Rattle.members.proofs.part.Goals as goal

pub overflow_mul-left : goal.overflow_mul-left
unfolding Inside
overflow_mul-left c =
    omega (arith, row_inside _ _ c.args.s.width c.requires.inside.2)

pub overflow_add-left : goal.overflow_add-left
unfolding Inside
overflow_add-left c =
    omega (arith, row_inside _ _ c.args.s.width c.requires.inside.2)

pub returns-then-not-up : goal.returns-then-not-up
returns-then-not-up c =
    left_has c.args.work.now c.args.s c.args.c c.args.i c.requires.inside.2
    c.requires.i_value

pub run-requires : goal.run-requires
unfolding Inside
run-requires c =
    let h =
    left_has c.args.work.now c.args.s c.args.c c.args.i c.requires.inside.2
    c.requires.i_value in
    (omega (arith, h.0), c.requires.inside.1, h.2)

pub returns : goal.returns
returns c =
    run_has c.args.work.now c.args.s c.args.c c.args.i c.requires.inside.2
    c.requires.i_value c.run.result
    (sym c.requires.up_value ∙ c.if-not-up.false) c.run.ensures.0 c.run.ensures.1
