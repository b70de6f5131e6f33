-- `forward_axes::child_step` meets its contract. The invariant: the flags of the rows before v are those of the step,
-- and at one more than a level `opens` has the mark of the last row before v of that level.
use mathlib.Core.Path.{◌≡◌, ap, ◌∙◌}
use mathlib.Core.Bool.{false}
use lib.ListN.{get_or}
use native.Mathlib.Omega.{arith}
use Rattle.codes.specs.declared.Axis.TheVariants.{Child}
use Rattle.meaning.specs.Catalogue.{catalogue_of}
use Rattle.step_parts.proofs.Marking.{part_none, part_up}
use Rattle.forward_axes.proofs.Child.{opens_begin, opens_more, opens_flag}
use Rattle.forward_axes.proofs.child_step.Goals as goal

pub loop-v-init : goal.loop-v-init
loop-v-init c =
    let args = c.args in
    let cat = catalogue_of args.doc.now args.rows in
    let nested = c.requires.known.nested in
    (opens_begin cat args.rows nested args.from.now, part_none _ _ _ _ _ _ 0)

pub level_of-level-requires : goal.level_of-level-requires
level_of-level-requires c =
    (c.requires.known, c.loop-v-test.true)

pub loop-v-preserved : goal.loop-v-preserved
loop-v-preserved c =
    let loop = c.loop-v in
    let args = c.args in
    let from = args.from.now in
    let nested = c.requires.known.nested in
    let here = c.loop-v-test.true in
    let cat = catalogue_of args.doc.now args.rows in (
      rw c.level_of-level.ensures.0
          (opens_more cat args.rows nested from loop.v loop.opens here loop.invariant.0),
      part_up args.doc.now args.rows Child args.test from args.to.now loop.to loop.v _ _
          (omega arith)
          (c.takes.ensures args.rows)
          (ap (λ l. get_or loop.opens l false) c.level_of-level.ensures.0
          ∙ opens_flag cat args.rows nested from loop.v loop.opens here loop.invariant.0)
          loop.invariant.1,
    )

pub returns : goal.returns
returns c =
    let end : c.loop-v.v ≡ c.args.rows = omega arith in
    rw end at c.loop-v.invariant.1
