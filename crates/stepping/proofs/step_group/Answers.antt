-- `stepping::step_group` meets its contract: the group's nodes are marked, the step goes from them, and the nodes
-- that it reaches are written where there is room for them.
use Prim.Native.Nat.{◌-◌}
use native.Mathlib.Omega.{arith}
use borrow.Author.Rules.{rules}
use Rattle.meaning.specs.Catalogue.{catalogue_of}
use Rattle.nodesets.proofs.Ranks.{length_ranks}
use Rattle.tables.specs.Layout.{Inside}
use Rattle.stepping.proofs.Nodes.{rows_of_lem, step_fails, step_full, step_laid}
use Rattle.stepping.proofs.step_group.Goals as goal

pub iteration_of-iteration-requires : goal.iteration_of-iteration-requires
unfolding Inside
iteration_of-iteration-requires c =
    search rules

pub mark_group-requires : goal.mark_group-requires
unfolding Inside
mark_group-requires c =
    record { inside = search rules; iteration_value = c.iteration_of-iteration.ensures }

pub returns-in_default : goal.returns-in_default
returns-in_default c =
    step_fails _ _ _ _ _ _ _ _ _ _ _ c.in_default.not-Ok
    (c.mark_group.ensures (catalogue_of c.args.doc.now c.args.rows) (rows_of_lem _ _))

-- the nodes are no more than the catalogue's rows
pub overflow_mul-n : goal.overflow_mul-n
overflow_mul-n c =
    let few = length_ranks c.args.rows c.step.new.to in
    omega (arith, c.count-n.ensures, few, c.requires.width_value.1.known.few)

pub returns-then-room-at : goal.returns-then-room-at
returns-then-room-at c =
    step_full _ _ _ _ _ _ _ _ _ _ _ _
    (c.in-Ok.ensures (catalogue_of c.args.doc.now c.args.rows) (rows_of_lem _ _))
    c.step.ensures _ c.count-n.ensures (omega arith)

pub returns : goal.returns
returns c =
    step_laid _ _ _ _ _ _ _ _ _ _ _ _
    (c.in-Ok.ensures (catalogue_of c.args.doc.now c.args.rows) (rows_of_lem _ _))
    c.step.ensures _ _ _ c.count-n.ensures
    (omega (arith, c.if-room-at.false, c.requires.inside))
    c.iteration_of-iteration.ensures c.write_rows.ensures.1
