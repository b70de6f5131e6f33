-- `rowwise::each::lay_row` meets its contract, task by task.
use native.Mathlib.Omega.{arith}
use mir.Syntax.{w64}
use mir.Val.{SFits}
use mir.Facts.{to_z-of_z}
use Rattle.tables.proofs.Promise.{attached_is}
use Rattle.rowwise.specs.Tasks.{made, wider, Suits}
use Rattle.rowwise.proofs.Tasks.{task_suits, task_owes}
use borrow.Author.Rules.{rules}
use Rattle.rowwise.proofs.each.lay_row.Goals as goal

pub project-requires : goal.project-requires
unfolding Suits
project-requires c =
    record {
      w_bound = omega arith;
      n_in_bounds = task_suits _ _ c.in-Project.is _ _ _
          c.requires.rows_in_bounds.1;
    }

pub minus-requires : goal.minus-requires
unfolding Suits
minus-requires c =
    let h = task_suits _ _ c.in-Minus.is _ _ _
    c.requires.rows_in_bounds.1 in
    (omega arith, omega arith, omega arith, h.0, h.1)

pub select-requires : goal.select-requires
unfolding Suits
select-requires c = (
  omega arith,
  omega arith,
  omega arith,
  task_suits _ _ c.in-Select.is _ _ _
      c.requires.rows_in_bounds.1,
)

pub apply-requires : goal.apply-requires
unfolding Suits
apply-requires c =
    let h = task_suits _ _ c.in-Apply.is _ _ _
    c.requires.rows_in_bounds.1 in
    (omega arith, omega arith, omega arith, h.0, h.1)

pub value-requires : goal.value-requires
unfolding Suits
value-requires c = record {
  w_bound =
      (omega arith, omega arith, omega arith, task_suits _ _ c.in-Value.is _ _ _ c.requires.rows_in_bounds.1);
  rows_in_bounds = omega arith;
}

pub returns-in-Attach : goal.returns-in-Attach
unfolding made wider
returns-in-Attach c =
    let narrow : SFits w64 c.in-Attach.cell = search rules in
    task_owes _ _ c.in-Attach.is _ _ _ _ _ _ _ _ _
    (attached_is _ _ _ _ _ _ _ _ _ (to_z-of_z narrow) c.attach.ensures)

pub returns-in-Project : goal.returns-in-Project
unfolding made wider
returns-in-Project c =
    task_owes _ _ c.in-Project.is _ _ _ _ _ _ _ _ _ c.project.ensures

pub returns-in-Minus : goal.returns-in-Minus
unfolding made wider
returns-in-Minus c =
    task_owes _ _ c.in-Minus.is _ _ _ _ _ _ _ _ _ c.minus.ensures

pub returns-in-Select : goal.returns-in-Select
unfolding made wider
returns-in-Select c =
    task_owes _ _ c.in-Select.is _ _ _ _ _ _ _ _ _ c.select.ensures

pub returns-in-Apply : goal.returns-in-Apply
unfolding made wider
returns-in-Apply c =
    task_owes _ _ c.in-Apply.is _ _ _ _ _ _ _ _ _ c.apply.ensures

pub returns-in-Value : goal.returns-in-Value
unfolding made wider
returns-in-Value c =
    task_owes _ _ c.in-Value.is _ _ _ _ _ _ _ _ _ c.value.ensures
