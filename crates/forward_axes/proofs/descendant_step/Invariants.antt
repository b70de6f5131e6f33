-- `forward_axes::descendant_step` meets its contract. The invariant: the flags of the rows before v are those of the
-- step, and `until` is past the last row that the size of a marked row before v covers.
use Rattle.meaning.specs.Catalogue.{catalogue_of}
use Rattle.step_parts.specs.Steps.{AxisPart, or_self}
use Rattle.forward_axes.proofs.Descendant.{Until}
use Rattle.forward_axes.proofs.descendant_step.Given as goal

abbrev pub invariant-loop-v : goal.invariant-loop-v
invariant-loop-v l =
    Until l.rows (catalogue_of l.doc l.rows).size l.from l.v l.until.0
    × AxisPart 0 l.v l.doc l.rows (or_self l.own) l.test l.from l.initial.to l.to
