-- `reverse_axes::preceding_step` meets its contract. The invariant: the flags of the rows from v on are those of
-- the step, and `last` is the greatest marked rank from v on with no root from v up to it.
use Prim.Native.Nat.{◌<◌, ◌+◌, ◌-◌}
use mathlib.Core.Path.{◌≡◌, ap, ◌∙◌}
use lib.Dec.{ltb}
use native.Mathlib.Omega.{arith}
use Rattle.codes.specs.declared.Axis.TheVariants.{Preceding}
use Rattle.meaning.specs.Catalogue.{catalogue_of}
use Rattle.step_parts.proofs.Marking.{part_none, part_down}
use Rattle.reverse_axes.proofs.Preceding.{last_begin, last_more, last_flag}
use Rattle.reverse_axes.proofs.preceding_step.Goals as goal

pub loop-v-init : goal.loop-v-init
loop-v-init c =
    let args = c.args in
    let cat = catalogue_of args.doc.now args.rows in
    (last_begin cat args.rows args.from.now, part_none _ _ _ _ _ _ args.rows)

pub end_of-end-requires : goal.end_of-end-requires
end_of-end-requires c =
    (c.requires.known, omega arith)

pub level_of-level-requires : goal.level_of-level-requires
level_of-level-requires c =
    (c.requires.known, omega arith)

pub loop-v-preserved : goal.loop-v-preserved
loop-v-preserved c =
    let loop = c.loop-v in
    let args = c.args in
    let from = args.from.now in
    let cat = catalogue_of args.doc.now args.rows in
    let v = loop.v - 1 in
    let here : loop.v ≡ v + 1 = omega arith in
    let there : v < args.rows = omega arith in (
      rw (c.pick-last.ensures, c.pick-latest.ensures, c.level_of-level.ensures.0)
          (last_more cat args.rows from loop.v v loop.last.0 here there loop.invariant.0),
      part_down args.doc.now args.rows Preceding args.test from args.to.now loop.to v _ _
          (omega (arith, c.requires.targets))
          (c.takes.ensures args.rows)
          (ap (λ e. ltb e loop.last.0) c.end_of-end.ensures.0
          ∙ last_flag cat args.rows from loop.v v loop.last.0 here there loop.invariant.0)
          loop.v here there loop.invariant.1,
    )

pub returns : goal.returns
returns c =
    let end : c.loop-v.v ≡ 0 = omega arith in
    rw end at c.loop-v.invariant.1
