-- `step` meets its contract: cut, a bad field, or its fields as they stand.
use Rattle.laws.specs.Attempt.{tried}
use Rattle.codes.proofs.Numbers.{tried_read}
use mathlib.Core.Bool.{not}
use mathlib.Core.Path.{ap, ◌∙◌}
use Prim.Native.Nat.{◌+◌, ◌≤◌}
use native.Mathlib.Omega.{arith}
use lib.ListN.{length}
use Rattle.plan_records.specs.Arms as Arms
use Rattle.plan_records.proofs.Sized.{there, cut_reads}
use Rattle.plan_records.proofs.Arms.{step_no_axis, step_no_test, step_sound}
use Rattle.plan_records.proofs.records.step.Goals as goal

pub returns-then-not-fits : goal.returns-then-not-fits
unfolding Arms.step
returns-then-not-fits c =
    let a = c.args in
    let f = c.fits in
    cut_reads a.plan.now a.at 8 f.result f.ensures _ (ap not c.if-not-fits.true)

pub overflow_add-next : goal.overflow_add-next
overflow_add-next c =
    let room : c.args.at + 8 ≤ length c.args.plan.now = let a = c.args in
    let f = c.fits in
    there a.plan.now a.at 8 f.result f.ensures (ap not c.if-not-fits.false) in
    omega (arith, room)

pub overflow_add-at : goal.overflow_add-at
overflow_add-at c =
    let room : c.args.at + 8 ≤ length c.args.plan.now = let a = c.args in
    let f = c.fits in
    there a.plan.now a.at 8 f.result f.ensures (ap not c.if-not-fits.false) in
    omega (arith, room)

pub word2-t-requires : goal.word2-t-requires
word2-t-requires c =
    let room : c.args.at + 8 ≤ length c.args.plan.now = let a = c.args in
    let f = c.fits in
    there a.plan.now a.at 8 f.result f.ensures (ap not c.if-not-fits.false) in
    omega (arith, room)

pub overflow_add-at-2 : goal.overflow_add-at-2
overflow_add-at-2 c =
    let room : c.args.at + 8 ≤ length c.args.plan.now = let a = c.args in
    let f = c.fits in
    there a.plan.now a.at 8 f.result f.ensures (ap not c.if-not-fits.false) in
    omega (arith, room)

pub bounds-plan-at : goal.bounds-plan-at
bounds-plan-at c =
    let room : c.args.at + 8 ≤ length c.args.plan.now = let a = c.args in
    let f = c.fits in
    there a.plan.now a.at 8 f.result f.ensures (ap not c.if-not-fits.false) in
    omega (arith, room)

pub returns-in_err-axis : goal.returns-in_err-axis
returns-in_err-axis c =
    let a = c.args in
    let x = c.ok in
    let e = ap tried x.ensures.value ∙ tried_read c.try_from.result ∙ c.try_from.ensures in
    rw c.from_residual.ensures (step_no_axis a.plan.now a.at x.result e c.in_err-axis.was)

pub overflow_add-at-3 : goal.overflow_add-at-3
overflow_add-at-3 c =
    let room : c.args.at + 8 ≤ length c.args.plan.now = let a = c.args in
    let f = c.fits in
    there a.plan.now a.at 8 f.result f.ensures (ap not c.if-not-fits.false) in
    omega (arith, room)

pub bounds-plan-at-2 : goal.bounds-plan-at-2
bounds-plan-at-2 c =
    let room : c.args.at + 8 ≤ length c.args.plan.now = let a = c.args in
    let f = c.fits in
    there a.plan.now a.at 8 f.result f.ensures (ap not c.if-not-fits.false) in
    omega (arith, room)

pub overflow_add-at-4 : goal.overflow_add-at-4
overflow_add-at-4 c =
    let room : c.args.at + 8 ≤ length c.args.plan.now = let a = c.args in
    let f = c.fits in
    there a.plan.now a.at 8 f.result f.ensures (ap not c.if-not-fits.false) in
    omega (arith, room)

pub word2-requires : goal.word2-requires
word2-requires c =
    let room : c.args.at + 8 ≤ length c.args.plan.now = let a = c.args in
    let f = c.fits in
    there a.plan.now a.at 8 f.result f.ensures (ap not c.if-not-fits.false) in
    omega (arith, room)

pub returns-in_err-test : goal.returns-in_err-test
returns-in_err-test c =
    let a = c.args in
    let x = c.ok in
    let e = ap tried x.ensures.value ∙ tried_read c.try_from.result ∙ c.try_from.ensures in
    let n = c.word2 in
    let y = c.test_of in
    rw c.from_residual-in_err-test.ensures
    (step_no_test a.plan.now a.at x.result e n.result n.ensures.0 y.result y.ensures
    c.in_ok-axis.axis c.in_ok-axis.was c.in_err-test.was)

pub returns : goal.returns
returns c =
    let a = c.args in
    let f = c.fits in
    let w = c.word2-t in
    let x = c.ok in
    let e = ap tried x.ensures.value ∙ tried_read c.try_from.result ∙ c.try_from.ensures in
    let n = c.word2 in
    let y = c.test_of in
    step_sound a.plan.now a.at x.result e n.result n.ensures.0 y.result y.ensures
    c.in_ok-axis.axis c.in_ok-axis.was f.result f.ensures (ap not c.if-not-fits.false) w.result w.ensures.0
    c.in_ok-test.test c.in_ok-test.was c.sound.result c.sound.ensures
