-- `forward_axes::following_step` meets its contract. The invariant: the flags of the rows before v are those of the
-- step, and `least` is the least end of the marked rows before v that have no root after them.
use mathlib.Core.Path.{◌≡◌, sym}
use native.Mathlib.Omega.{arith}
use Rattle.codes.specs.declared.Axis.TheVariants.{Following}
use Rattle.meaning.specs.Catalogue.{catalogue_of}
use Rattle.step_parts.proofs.Marking.{part_none, part_up}
use Rattle.forward_axes.proofs.Following.{least_begin, least_enter, least_more, least_flag}
use Rattle.forward_axes.proofs.following_step.Goals as goal

pub loop-v-init : goal.loop-v-init
loop-v-init c =
    let args = c.args in
    let cat = catalogue_of args.doc.now args.rows in
    let nested = c.requires.known.nested in
    (least_begin cat args.rows nested args.from.now, part_none _ _ _ _ _ _ 0)

pub level_of-level-requires : goal.level_of-level-requires
level_of-level-requires c =
    (c.requires.known, c.loop-v-test.true)

pub end_of-end-requires : goal.end_of-end-requires
end_of-end-requires c =
    (c.requires.known, c.loop-v-test.true)

pub loop-v-preserved : goal.loop-v-preserved
loop-v-preserved c =
    let loop = c.loop-v in
    let args = c.args in
    let from = args.from.now in
    let nested = c.requires.known.nested in
    let here = c.loop-v-test.true in
    let cat = catalogue_of args.doc.now args.rows in
    let entered = rw (sym c.level_of-level.ensures.0, sym c.pick-entered.ensures) at
    (least_enter cat args.rows nested from loop.v loop.least.0 here
    loop.invariant.0) in (
      rw (c.pick-least.ensures, c.end_of-end.ensures.0)
          (least_more cat args.rows nested from loop.v c.pick-entered.result.0 here entered),
      part_up args.doc.now args.rows Following args.test from args.to.now loop.to loop.v _ _
          (omega arith)
          (c.takes.ensures args.rows)
          (least_flag cat args.rows nested from loop.v c.pick-entered.result.0 here entered)
          loop.invariant.1,
    )

pub returns : goal.returns
returns c =
    let end : c.loop-v.v ≡ c.args.rows = omega arith in
    rw end at c.loop-v.invariant.1
