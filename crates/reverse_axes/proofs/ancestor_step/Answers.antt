-- `reverse_axes::ancestor_step` meets its contract. The invariant: the flags of the rows from v on are those of
-- the step, and `next` is the least marked rank from v on.
use Prim.Native.Nat.{◌<◌, ◌+◌, ◌-◌}
use mathlib.Core.Path.{◌≡◌, ap, ◌∙◌}
use lib.Dec.{leb}
use native.Mathlib.Omega.{arith}
use Rattle.codes.specs.declared.Axis.TheVariants.{Ancestor}
use Rattle.meaning.specs.Catalogue.{catalogue_of}
use Rattle.step_parts.proofs.Marking.{part_none, part_down}
use Rattle.reverse_axes.proofs.Ancestor.{next_begin, next_more, next_flag}
use Rattle.reverse_axes.proofs.ancestor_step.Goals as goal

pub loop-v-init : goal.loop-v-init
loop-v-init c =
    let args = c.args in
    let cat = catalogue_of args.doc.now args.rows in
    let nested = c.requires.known.nested in
    (next_begin cat args.rows nested args.from.now, part_none _ _ _ _ _ _ args.rows)

pub end_of-end-requires : goal.end_of-end-requires
end_of-end-requires c =
    (c.requires.known, omega arith)

pub loop-v-preserved : goal.loop-v-preserved
loop-v-preserved c =
    let loop = c.loop-v in
    let args = c.args in
    let from = args.from.now in
    let nested = c.requires.known.nested in
    let cat = catalogue_of args.doc.now args.rows in
    let v = loop.v - 1 in
    let here : loop.v ≡ v + 1 = omega arith in
    let there : v < args.rows = omega arith in (
      rw c.pick-next.ensures
          (next_more cat args.rows nested from loop.v v loop.next.0 here there loop.invariant.0),
      part_down args.doc.now args.rows Ancestor args.test from args.to.now loop.to v _ _
          (omega arith)
          (c.takes.ensures args.rows)
          (ap (λ e. leb loop.next.0 e) c.end_of-end.ensures.0
          ∙ next_flag cat args.rows nested from loop.v v loop.next.0 here there loop.invariant.0)
          loop.v here there loop.invariant.1,
    )

pub returns : goal.returns
returns c =
    let end : c.loop-v.v ≡ 0 = omega arith in
    rw end at c.loop-v.invariant.1
