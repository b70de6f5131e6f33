-- `forward_axes::child_step` meets its contract. The invariant: the flags of the rows before v are those of the step,
-- and at one more than a level `opens` has the mark of the last row before v of that level.
use Rattle.codes.specs.declared.Axis.TheVariants.{Child}
use Rattle.meaning.specs.Catalogue.{catalogue_of}
use Rattle.step_parts.specs.Steps.{AxisPart}
use Rattle.forward_axes.proofs.Child.{Opens}
use Rattle.forward_axes.proofs.child_step.Given as goal

abbrev pub invariant-loop-v : goal.invariant-loop-v
invariant-loop-v l =
    Opens (catalogue_of l.doc l.rows).level l.from l.v l.opens
    × AxisPart 0 l.v l.doc l.rows Child l.test l.from l.initial.to l.to
