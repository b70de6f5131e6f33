-- `reverse_axes::ancestor_step` meets its contract. The invariant: the flags of the rows from v on are those of
-- the step, and `next` is the least marked rank from v on.
use Rattle.codes.specs.declared.Axis.TheVariants.{Ancestor}
use Rattle.step_parts.specs.Steps.{AxisPart}
use Rattle.reverse_axes.proofs.Ancestor.{Next}
use Rattle.reverse_axes.proofs.ancestor_step.Given as goal

abbrev pub invariant-loop-v : goal.invariant-loop-v
invariant-loop-v l =
    Next l.rows l.from l.v l.next.0
    × AxisPart l.v l.rows l.doc l.rows Ancestor l.test l.from l.initial.to l.to
