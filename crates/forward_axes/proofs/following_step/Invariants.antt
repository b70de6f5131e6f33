-- `forward_axes::following_step` meets its contract. The invariant: the flags of the rows before v are those of the
-- step, and `least` is the least end of the marked rows before v that have no root after them.
use Rattle.codes.specs.declared.Axis.TheVariants.{Following}
use Rattle.meaning.specs.Catalogue.{catalogue_of}
use Rattle.step_parts.specs.Steps.{AxisPart}
use Rattle.forward_axes.proofs.Following.{Least}
use Rattle.forward_axes.proofs.following_step.Given as goal

abbrev pub invariant-loop-v : goal.invariant-loop-v
invariant-loop-v l =
    Least l.rows (catalogue_of l.doc l.rows).size (catalogue_of l.doc l.rows).level l.from l.v l.v l.least.0
    × AxisPart 0 l.v l.doc l.rows Following l.test l.from l.initial.to l.to
