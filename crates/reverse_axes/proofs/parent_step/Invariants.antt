-- `reverse_axes::parent_step` meets its contract. The invariant: the flags of the rows from v on are those of the
-- step, and `waits` has for each level whether a marked row from v on has its parent before v.
use Rattle.codes.specs.declared.Axis.TheVariants.{Parent}
use Rattle.meaning.specs.Catalogue.{catalogue_of}
use Rattle.step_parts.specs.Steps.{AxisPart}
use Rattle.reverse_axes.proofs.Parent.{Waits}
use Rattle.reverse_axes.proofs.parent_step.Given as goal

abbrev pub invariant-loop-v : goal.invariant-loop-v
invariant-loop-v l =
    Waits l.rows (catalogue_of l.doc l.rows).level l.from l.v l.waits
    × AxisPart l.v l.rows l.doc l.rows Parent l.test l.from l.initial.to l.to
