-- `operators::perform` meets its contract, operator by operator.
use native.Mathlib.Omega.{arith}
use mir.Syntax.{w64}
use mir.Val.{SFits}
use mir.Facts.{to_z-of_z}
use Rattle.rowwise.specs.Tasks.{Suits, wider}
use Rattle.plans.specs.Accepted.{Suited}
use Rattle.plan_widths.specs.Widths.{tables_of}
use Rattle.directory.specs.Sound.{SoundOf, SoundOperator}
use Rattle.directory.proofs.Cases.{sound_case, listed}
use Rattle.operators.proofs.Performed.{one_made, attach_made, project_made, union_made, minus_made}
use Rattle.operators.proofs.Performed.{select_made}
use Rattle.operators.proofs.Performed.{join_made, number_made, apply_made, value_made, counts_made}
use Rattle.operators.proofs.Performed.{truths_made}
use Rattle.operators.proofs.Performed.{once_made, step_made, root_made}
use borrow.Author.Rules.{rules}
use Rattle.operators.proofs.perform.Goals as goal

pub rowwise-requires : goal.rowwise-requires
unfolding SoundOperator SoundOf tables_of Suited Suits wider
rowwise-requires c =
    let h = sound_case _ _ c.in-Attach.is _ _ _ c.requires.listed_tables.1 in record {
      table_stands = (listed _ _ _ _ c.requires.listed_tables.0 h.0, c.requires.cells_le_room.0, c.requires.cells_le_room.1, c.requires.in_bounds.2.known.there);
      suits = tt;
      bound = (omega arith, h.2.0);
    }

pub rowwise-requires-in-Project : goal.rowwise-requires-in-Project
unfolding SoundOperator SoundOf tables_of Suited Suits wider
rowwise-requires-in-Project c =
    let h = sound_case _ _ c.in-Project.is _ _ _ c.requires.listed_tables.1 in record {
      table_stands = (listed _ _ _ _ c.requires.listed_tables.0 h.0, c.requires.cells_le_room.0, c.requires.cells_le_room.1, c.requires.in_bounds.2.known.there);
      suits = (h.2.1, h.2.0);
      bound = (h.2.2, h.2.3);
    }

pub union-requires : goal.union-requires
unfolding SoundOperator SoundOf tables_of Suited
union-requires c =
    let h = sound_case _ _ c.in-Union.is _ _ _ c.requires.listed_tables.1 in record {
      table_stands = (listed _ _ _ _ c.requires.listed_tables.0 h.0, listed _ _ _ _ c.requires.listed_tables.0 h.1, c.requires.cells_le_room.0, c.requires.cells_le_room.1);
      t_value = h.2;
    }

pub minus-requires : goal.minus-requires
unfolding SoundOperator SoundOf tables_of Suited
minus-requires c =
    let h = sound_case _ _ c.in-Minus.is _ _ _ c.requires.listed_tables.1 in record {
      table_stands = (listed _ _ _ _ c.requires.listed_tables.0 h.0, listed _ _ _ _ c.requires.listed_tables.0 h.1, c.requires.cells_le_room.0, c.requires.cells_le_room.1);
      rows_in_bounds = (c.requires.in_bounds.2.known.there, h.2);
    }

pub rowwise-requires-in-Select : goal.rowwise-requires-in-Select
unfolding SoundOperator SoundOf tables_of Suited Suits wider
rowwise-requires-in-Select c =
    let h = sound_case _ _ c.in-Select.is _ _ _ c.requires.listed_tables.1 in
    let t = listed _ _ _ _ c.requires.listed_tables.0 h.0 in
    record {
      table_stands = (t, c.requires.cells_le_room.0, c.requires.cells_le_room.1, c.requires.in_bounds.2.known.there);
      suits = h.2;
      bound = (t.low, t.high);
    }

pub join-requires : goal.join-requires
unfolding SoundOperator SoundOf tables_of Suited
join-requires c =
    let h = sound_case _ _ c.in-Join.is _ _ _ c.requires.listed_tables.1 in record {
      table_stands = (listed _ _ _ _ c.requires.listed_tables.0 h.0, listed _ _ _ _ c.requires.listed_tables.0 h.1, c.requires.cells_le_room.0, c.requires.cells_le_room.1);
      c_bound = (h.2.0, h.2.1, h.2.2);
    }

pub number-requires : goal.number-requires
unfolding SoundOperator SoundOf tables_of Suited
number-requires c =
    let h = sound_case _ _ c.in-Number.is _ _ _ c.requires.listed_tables.1 in record {
      table_stands = (listed _ _ _ _ c.requires.listed_tables.0 h.0, c.requires.cells_le_room.0, c.requires.cells_le_room.1, c.requires.cells_le_room.2);
      le_n = (h.2.2, h.2.3, h.2.1);
      n_value = h.2.0;
      in_bounds = (c.requires.in_bounds.0, c.requires.in_bounds.1);
    }

pub rowwise-requires-in-Apply : goal.rowwise-requires-in-Apply
unfolding SoundOperator SoundOf tables_of Suited Suits wider
rowwise-requires-in-Apply c =
    let h = sound_case _ _ c.in-Apply.is _ _ _ c.requires.listed_tables.1 in record {
      table_stands = (listed _ _ _ _ c.requires.listed_tables.0 h.0, c.requires.cells_le_room.0, c.requires.cells_le_room.1, c.requires.in_bounds.2.known.there);
      suits = (h.2.0, h.2.1);
      bound = (omega arith, h.2.2);
    }

pub rowwise-requires-in-Value : goal.rowwise-requires-in-Value
unfolding SoundOperator SoundOf tables_of Suited Suits wider
rowwise-requires-in-Value c =
    let h = sound_case _ _ c.in-Value.is _ _ _ c.requires.listed_tables.1 in record {
      table_stands = (listed _ _ _ _ c.requires.listed_tables.0 h.0, c.requires.cells_le_room.0, c.requires.cells_le_room.1, c.requires.in_bounds.2.known.there);
      suits = h.2.0;
      bound = (omega arith, h.2.1);
    }

pub counts-requires : goal.counts-requires
unfolding SoundOperator SoundOf tables_of Suited
counts-requires c =
    let h = sound_case _ _ c.in-Counts.is _ _ _ c.requires.listed_tables.1 in
    (listed _ _ _ _ c.requires.listed_tables.0 h.0, c.requires.cells_le_room.0, c.requires.cells_le_room.1, c.requires.cells_le_room.2, h.2)

pub truths-requires : goal.truths-requires
unfolding SoundOperator SoundOf tables_of Suited
truths-requires c =
    let h = sound_case _ _ c.in-Truths.is _ _ _ c.requires.listed_tables.1 in record {
      table_stands = (listed _ _ _ _ c.requires.listed_tables.0 h.0, c.requires.cells_le_room.0, c.requires.cells_le_room.1, c.requires.in_bounds.2.known.there);
      t_value = h.2;
    }

pub once-requires : goal.once-requires
unfolding SoundOperator SoundOf tables_of Suited
once-requires c =
    let h = sound_case _ _ c.in-Once.is _ _ _ c.requires.listed_tables.1 in
    (listed _ _ _ _ c.requires.listed_tables.0 h.0, c.requires.cells_le_room.0, c.requires.cells_le_room.1, h.2)

pub steps-requires : goal.steps-requires
unfolding SoundOperator SoundOf tables_of Suited
steps-requires c =
    let h = sound_case _ _ c.in-Step.is _ _ _ c.requires.listed_tables.1 in
    record {
      table_stands = (listed _ _ _ _ c.requires.listed_tables.0 h.0, c.requires.cells_le_room.0, c.requires.cells_le_room.1, h.2.0);
      ready = c.requires.in_bounds.2;
    }

pub root-requires : goal.root-requires
unfolding SoundOperator SoundOf tables_of Suited
root-requires c =
    let h = sound_case _ _ c.in-Root.is _ _ _ c.requires.listed_tables.1 in record {
      table_stands = (listed _ _ _ _ c.requires.listed_tables.0 h.0, c.requires.cells_le_room.0, c.requires.cells_le_room.1, h.2.0);
      rows_in_bounds = (c.requires.in_bounds.2.known.there, c.requires.in_bounds.2.known.few, h.2.1);
    }

pub returns-in-One : goal.returns-in-One
returns-in-One c =
    one_made _ _ _ _ _ _ _ _ _ _ c.requires.listed_tables.1 c.in-One.is
    c.one.ensures

pub returns-in-Attach : goal.returns-in-Attach
returns-in-Attach c =
    let narrow : SFits w64 c.in-Attach.cell = search rules in
    attach_made _ _ _ _ _ _ _ _ _ _ c.requires.listed_tables.1 _ _ _ (to_z-of_z narrow)
    c.in-Attach.is c.rowwise.ensures

pub returns-in-Project : goal.returns-in-Project
returns-in-Project c =
    project_made _ _ _ _ _ _ _ _ _ _ c.requires.listed_tables.1 _ _ _ c.in-Project.is
    c.rowwise-in-Project.ensures

pub returns-in-Union : goal.returns-in-Union
returns-in-Union c =
    union_made _ _ _ _ _ _ _ _ _ _ c.requires.listed_tables.1 _ _ c.in-Union.is
    c.union.ensures

pub returns-in-Minus : goal.returns-in-Minus
returns-in-Minus c =
    minus_made _ _ _ _ _ _ _ _ _ _ c.requires.listed_tables.1 _ _ c.in-Minus.is
    c.minus.ensures

pub returns-in-Select : goal.returns-in-Select
returns-in-Select c =
    select_made _ _ _ _ _ _ _ _ _ _ c.requires.listed_tables.1 _ _ c.in-Select.is
    c.rowwise-in-Select.ensures

pub returns-in-Join : goal.returns-in-Join
returns-in-Join c =
    join_made _ _ _ _ _ _ _ _ _ _ c.requires.listed_tables.1 _ _ _ _ c.in-Join.is
    c.join.ensures

pub returns-in-Number : goal.returns-in-Number
returns-in-Number c =
    number_made _ _ _ _ _ _ _ _ _ _ c.requires.listed_tables.1 _ _ _ _ c.in-Number.is
    c.number.ensures

pub returns-in-Apply : goal.returns-in-Apply
returns-in-Apply c =
    apply_made _ _ _ _ _ _ _ _ _ _ c.requires.listed_tables.1 _ _ _ _ c.in-Apply.is
    c.rowwise-in-Apply.ensures

pub returns-in-Value : goal.returns-in-Value
returns-in-Value c =
    value_made _ _ _ _ _ _ _ _ _ _ c.requires.listed_tables.1 _ _ c.in-Value.is
    c.rowwise-in-Value.ensures

pub returns-in-Counts : goal.returns-in-Counts
returns-in-Counts c =
    counts_made _ _ _ _ _ _ _ _ _ _ c.requires.listed_tables.1 _ _ c.in-Counts.is
    c.counts.ensures

pub returns-in-Truths : goal.returns-in-Truths
returns-in-Truths c =
    truths_made _ _ _ _ _ _ _ _ _ _ c.requires.listed_tables.1 _ c.in-Truths.is
    c.truths.ensures

pub returns-in-Once : goal.returns-in-Once
returns-in-Once c =
    once_made _ _ _ _ _ _ _ _ _ _ c.requires.listed_tables.1 _ _ c.in-Once.is
    c.once.ensures

pub returns-in-Step : goal.returns-in-Step
returns-in-Step c =
    step_made _ _ _ _ _ _ _ _ _ _ c.requires.listed_tables.1 _ _ _ c.in-Step.is
    c.steps.ensures

pub returns-in-Root : goal.returns-in-Root
returns-in-Root c =
    root_made _ _ _ _ _ _ _ _ _ _ c.requires.listed_tables.1 _ _ c.in-Root.is
    c.root.ensures
