-- `rowwise::each::settles_row` meets its contract, task by task.
use Prim.Native.Nat.{◌<◌}
use mathlib.Core.Path.{sym, ap, ap₂, ◌∙◌}
use native.Mathlib.Omega.{arith}
use mir.Facts.{to_z-of_z}
use Rattle.meaning.specs.World as World
use Rattle.rowwise.specs.Tasks.{settling, Worked}
use Rattle.tables.specs.Laying.{succeeds}
use Rattle.tables.proofs.Reading.{cell_read}
use Rattle.rowwise.proofs.Tasks.{task_worked, task_settling, settling_other, some_succeeds}
use borrow.Author.Rules.{rules}
use mir.Syntax.{w64}
use Rattle.rowwise.proofs.each.settles_row.Goals as goal

pub overflow_add-a : goal.overflow_add-a
unfolding Worked
overflow_add-a c =
    omega (arith, task_worked _ _ c.in-Apply.is _ c.requires.2)

pub offset_bounds-work-a : goal.offset_bounds-work-a
unfolding Worked
offset_bounds-work-a c =
    omega (arith, task_worked _ _ c.in-Apply.is _ c.requires.2)

pub bounds-work-a : goal.bounds-work-a
unfolding Worked
bounds-work-a c =
    omega (arith, task_worked _ _ c.in-Apply.is _ c.requires.2)

pub overflow_add-a-in-Apply : goal.overflow_add-a-in-Apply
unfolding Worked
overflow_add-a-in-Apply c =
    omega (arith, task_worked _ _ c.in-Apply.is _ c.requires.2)

pub offset_bounds-work-a-in-Apply : goal.offset_bounds-work-a-in-Apply
unfolding Worked
offset_bounds-work-a-in-Apply c =
    omega (arith, task_worked _ _ c.in-Apply.is _ c.requires.2)

pub bounds-work-a-in-Apply : goal.bounds-work-a-in-Apply
unfolding Worked
bounds-work-a-in-Apply c =
    omega (arith, task_worked _ _ c.in-Apply.is _ c.requires.2)

pub overflow_add-a-in-Value : goal.overflow_add-a-in-Value
unfolding Worked
overflow_add-a-in-Value c =
    omega (arith, task_worked _ _ c.in-Value.is _ c.requires.2)

pub offset_bounds-work-a-in-Value : goal.offset_bounds-work-a-in-Value
unfolding Worked
offset_bounds-work-a-in-Value c =
    omega (arith, task_worked _ _ c.in-Value.is _ c.requires.2)

pub bounds-work-a-in-Value : goal.bounds-work-a-in-Value
unfolding Worked
bounds-work-a-in-Value c =
    omega (arith, task_worked _ _ c.in-Value.is _ c.requires.2)

pub returns-in-Apply : goal.returns-in-Apply
unfolding settling Worked
returns-in-Apply c =
    let worked : (c.in-Apply.k < c.args.w) × (c.in-Apply.d < c.args.w) =
    task_worked _ _ c.in-Apply.is _ c.requires.2 in
    c.is_some.ensures
    ∙ some_succeeds c.arith.result
    ∙ ap succeeds
    (c.arith.ensures
    ∙ ap₂ (World.arith _)
    (to_z-of_z {w = w64} (record { sfits = c.arith-arg-1.given })
    ∙ sym (cell_read _ _ _ _ worked.0))
    (to_z-of_z {w = w64} (record { sfits = c.arith-arg-in-Apply-1.given })
    ∙ sym (cell_read _ _ _ _ worked.1)))
    ∙ task_settling _ _ c.in-Apply.is _ _

pub returns-in-Value : goal.returns-in-Value
unfolding settling Worked
returns-in-Value c =
    let worked2 : c.in-Value.k < c.args.w = task_worked _ _ c.in-Value.is _ c.requires.2 in
    c.is_some-in-Value.ensures
    ∙ some_succeeds c.value.result
    ∙ ap succeeds
    (c.value.ensures
    ∙ ap (World.value _) (to_z-of_z {w = w64} (record { sfits = c.value-arg-1.given })
    ∙ sym (cell_read _ _ _ _ worked2)))
    ∙ task_settling _ _ c.in-Value.is _ _

pub returns-in_default : goal.returns-in_default
returns-in_default c =
    settling_other _ _ _ c.in_default.not-Apply c.in_default.not-Value
