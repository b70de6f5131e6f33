-- `reverse_axes::preceding_step` meets its contract. The invariant: the flags of the rows from v on are those of
-- the step, and `last` is the greatest marked rank from v on with no root from v up to it.
use Rattle.codes.specs.declared.Axis.TheVariants.{Preceding}
use Rattle.meaning.specs.Catalogue.{catalogue_of}
use Rattle.step_parts.specs.Steps.{AxisPart}
use Rattle.reverse_axes.proofs.Preceding.{Last}
use Rattle.reverse_axes.proofs.preceding_step.Given as goal

abbrev pub invariant-loop-v : goal.invariant-loop-v
invariant-loop-v l =
    Last l.rows (catalogue_of l.doc l.rows).level l.from l.v l.last.0
    × AxisPart l.v l.rows l.doc l.rows Preceding l.test l.from l.initial.to l.to
