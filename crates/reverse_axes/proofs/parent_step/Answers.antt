-- `reverse_axes::parent_step` meets its contract. The invariant: the flags of the rows from v on are those of the
-- step, and `waits` has for each level whether a marked row from v on has its parent before v.
use Prim.Native.Nat.{◌<◌, ◌+◌, ◌-◌}
use mathlib.Core.Path.{◌≡◌, ap, ◌∙◌}
use mathlib.Core.Bool.{false}
use lib.ListN.{get_or}
use native.Mathlib.Omega.{arith}
use Rattle.codes.specs.declared.Axis.TheVariants.{Parent}
use Rattle.meaning.specs.Catalogue.{catalogue_of}
use Rattle.step_parts.proofs.Marking.{part_none, part_down}
use Rattle.reverse_axes.proofs.Parent.{waits_begin, waits_more, waits_flag}
use Rattle.reverse_axes.proofs.parent_step.Goals as goal

pub loop-v-init : goal.loop-v-init
loop-v-init c =
    let args = c.args in
    let cat = catalogue_of args.doc.now args.rows in
    let nested = c.requires.known.nested in
    (waits_begin cat args.rows nested args.from.now, part_none _ _ _ _ _ _ args.rows)

pub level_of-level-requires : goal.level_of-level-requires
level_of-level-requires c =
    (c.requires.known, omega arith)

pub loop-v-preserved : goal.loop-v-preserved
loop-v-preserved c =
    let loop = c.loop-v in
    let args = c.args in
    let from = args.from.now in
    let nested = c.requires.known.nested in
    let cat = catalogue_of args.doc.now args.rows in
    let v = loop.v - 1 in
    let here : loop.v ≡ v + 1 = omega arith in
    let there : v < args.rows = omega arith in (
      rw c.level_of-level.ensures.0
          (waits_more cat args.rows nested from loop.v v here there loop.waits loop.invariant.0),
      part_down args.doc.now args.rows Parent args.test from args.to.now loop.to v _ _
          (omega arith)
          (c.takes.ensures args.rows)
          (ap (λ l. get_or loop.waits (l + 1) false) c.level_of-level.ensures.0
          ∙ waits_flag cat args.rows nested from loop.v v here there loop.waits loop.invariant.0)
          loop.v here there loop.invariant.1,
    )

pub returns : goal.returns
returns c =
    let end : c.loop-v.v ≡ 0 = omega arith in
    rw end at c.loop-v.invariant.1
