-- `forward_axes::self_step` meets its contract. The invariant: the flags of the rows before v are those of the step.
use Rattle.codes.specs.declared.Axis.TheVariants.{Itself}
use Rattle.step_parts.specs.Steps.{AxisPart}
use Rattle.forward_axes.proofs.self_step.Given as goal

abbrev pub invariant-loop-v : goal.invariant-loop-v
invariant-loop-v l =
    AxisPart 0 l.v l.doc l.rows Itself l.test l.from l.initial.to l.to
