-- `forward_axes::self_step` meets its contract. The invariant: the flags of the rows before v are those of the step.
use mathlib.Core.Path.{◌≡◌}
use native.Mathlib.Omega.{arith}
use Rattle.codes.specs.declared.Axis.TheVariants.{Itself}
use Rattle.meaning.specs.Catalogue.{catalogue_of}
use Rattle.step_parts.proofs.Marking.{part_none, part_up}
use Rattle.forward_axes.proofs.Itself.{self_flag}
use Rattle.forward_axes.proofs.self_step.Goals as goal

pub loop-v-init : goal.loop-v-init
loop-v-init c =
    part_none _ _ _ _ _ _ 0

pub loop-v-preserved : goal.loop-v-preserved
loop-v-preserved c =
    let loop = c.loop-v in
    let args = c.args in
    let cat = catalogue_of args.doc.now args.rows in
    part_up args.doc.now args.rows Itself args.test args.from.now args.to.now loop.to loop.v
    _ _
    (omega arith)
    (c.takes.ensures args.rows)
    (self_flag cat args.rows args.from.now loop.v c.loop-v-test.true)
    loop.invariant

pub returns : goal.returns
returns c =
    let end : c.loop-v.v ≡ c.args.rows = omega arith in
    rw end at c.loop-v.invariant
