-- `lift` meets its contract: the flagged variables below v are lifted.
use mathlib.Core.Path.{◌≡◌}
use native.Mathlib.Omega.{arith}
use Rattle.laws.specs.Lists.{filter, below}
use Rattle.lifting.specs.Lifts.{flagged}
use Rattle.lifting.proofs.Lifting.{lifts_none, lifts_room, lifts_skip, lifts_more}
use Rattle.lifting.proofs.lift.Goals as goal
use Rattle.lifting.proofs.lift.Goals.{then-flags-v, else-flags-v}

pub loop-v-init : goal.loop-v-init
unfolding flagged below filter
loop-v-init c =
    lifts_none _ _ _ _ _

pub lift_one-done-requires : goal.lift_one-done-requires
lift_one-done-requires c =
    let l = c.loop-v in
    (lifts_room _ _ _ c.args.flags l.v _ _ _ _ l.invariant (omega arith) c.requires, omega arith)

pub loop-v-preserved : goal.loop-v-preserved
loop-v-preserved c =
    let l = c.loop-v in
    elim c.if-flags-v.branch [
      | then-flags-v w ↦
          rw (w.plan-is, w.done-is)
          (lifts_more _ _ _ c.args.flags l.v _ _ _ _ l.invariant (omega arith) _ _
          w.lift_one-done.ensures w.if-flags-v.true)
      | else-flags-v w ↦
          rw (w.plan-is, w.done-is) (lifts_skip _ _ _ c.args.flags l.v _ _ _ _ l.invariant w.if-flags-v.false)
    ]

pub returns : goal.returns
returns c =
    let l = c.loop-v in
    let e : l.v ≡ 8 = omega arith in
    rw e at l.invariant
