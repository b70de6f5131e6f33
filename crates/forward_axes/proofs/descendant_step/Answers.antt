-- `forward_axes::descendant_step` meets its contract. The invariant: the flags of the rows before v are those of the
-- step, and `until` is past the last row that the size of a marked row before v covers.
use mathlib.Core.Path.{◌≡◌}
use native.Mathlib.Omega.{arith}
use Rattle.meaning.specs.Catalogue.{catalogue_of}
use Rattle.step_parts.specs.Steps.{or_self}
use Rattle.step_parts.proofs.Marking.{part_none, part_up}
use Rattle.forward_axes.proofs.Descendant.{until_begin, until_more, until_flag}
use Rattle.forward_axes.proofs.descendant_step.Goals as goal

pub loop-v-init : goal.loop-v-init
loop-v-init c =
    let args = c.args in
    let cat = catalogue_of args.doc.now args.rows in
    let nested = c.requires.known.nested in
    (until_begin cat args.rows nested args.from.now, part_none _ _ _ _ _ _ 0)

pub end_of-end-requires : goal.end_of-end-requires
end_of-end-requires c =
    (c.requires.known, c.loop-v-test.true)

pub loop-v-preserved : goal.loop-v-preserved
loop-v-preserved c =
    let loop = c.loop-v in
    let args = c.args in
    let from = args.from.now in
    let nested = c.requires.known.nested in
    let here = c.loop-v-test.true in
    let cat = catalogue_of args.doc.now args.rows in
    let more = until_more cat args.rows nested from loop.v loop.until.0
    here loop.invariant.0 in (
      rw (c.pick-until.ensures, c.end_of-end.ensures.0) more,
      part_up args.doc.now args.rows (or_self args.own) args.test from args.to.now loop.to
          loop.v _ _ (omega arith)
          (c.takes.ensures args.rows)
          (until_flag cat args.rows nested from loop.v loop.until.0 here
          loop.invariant.0 args.own)
          loop.invariant.1,
    )

pub returns : goal.returns
returns c =
    let end : c.loop-v.v ≡ c.args.rows = omega arith in
    rw end at c.loop-v.invariant.1
