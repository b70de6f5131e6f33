-- `apply` meets its contract: cut, a bad field, or its fields as they stand.
use Rattle.laws.specs.Attempt.{tried}
use Rattle.codes.proofs.Numbers.{tried_read}
use mathlib.Core.Bool.{not}
use mathlib.Core.Path.{ap, ◌∙◌}
use Prim.Native.Nat.{◌+◌, ◌≤◌}
use native.Mathlib.Omega.{arith}
use lib.ListN.{length}
use Rattle.plan_records.specs.Arms as Arms
use Rattle.plan_records.proofs.Sized.{there, cut_reads}
use Rattle.plan_records.proofs.Arms.{apply_bad, apply_sound}
use Rattle.plan_records.proofs.records.apply.Goals as goal

pub returns-then-not-fits : goal.returns-then-not-fits
unfolding Arms.apply
returns-then-not-fits c =
    let a = c.args in
    let f = c.fits in
    cut_reads a.plan.now a.at 7 f.result f.ensures _ (ap not c.if-not-fits.true)

pub overflow_add-next : goal.overflow_add-next
overflow_add-next c =
    let room : c.args.at + 7 ≤ length c.args.plan.now = let a = c.args in
    let f = c.fits in
    there a.plan.now a.at 7 f.result f.ensures (ap not c.if-not-fits.false) in
    omega (arith, room)

pub overflow_add-at : goal.overflow_add-at
overflow_add-at c =
    let room : c.args.at + 7 ≤ length c.args.plan.now = let a = c.args in
    let f = c.fits in
    there a.plan.now a.at 7 f.result f.ensures (ap not c.if-not-fits.false) in
    omega (arith, room)

pub word2-t-requires : goal.word2-t-requires
word2-t-requires c =
    let room : c.args.at + 7 ≤ length c.args.plan.now = let a = c.args in
    let f = c.fits in
    there a.plan.now a.at 7 f.result f.ensures (ap not c.if-not-fits.false) in
    omega (arith, room)

pub overflow_add-at-2 : goal.overflow_add-at-2
overflow_add-at-2 c =
    let room : c.args.at + 7 ≤ length c.args.plan.now = let a = c.args in
    let f = c.fits in
    there a.plan.now a.at 7 f.result f.ensures (ap not c.if-not-fits.false) in
    omega (arith, room)

pub byte-c-requires : goal.byte-c-requires
byte-c-requires c =
    let room : c.args.at + 7 ≤ length c.args.plan.now = let a = c.args in
    let f = c.fits in
    there a.plan.now a.at 7 f.result f.ensures (ap not c.if-not-fits.false) in
    omega (arith, room)

pub overflow_add-at-3 : goal.overflow_add-at-3
overflow_add-at-3 c =
    let room : c.args.at + 7 ≤ length c.args.plan.now = let a = c.args in
    let f = c.fits in
    there a.plan.now a.at 7 f.result f.ensures (ap not c.if-not-fits.false) in
    omega (arith, room)

pub byte-d-requires : goal.byte-d-requires
byte-d-requires c =
    let room : c.args.at + 7 ≤ length c.args.plan.now = let a = c.args in
    let f = c.fits in
    there a.plan.now a.at 7 f.result f.ensures (ap not c.if-not-fits.false) in
    omega (arith, room)

pub overflow_add-at-4 : goal.overflow_add-at-4
overflow_add-at-4 c =
    let room : c.args.at + 7 ≤ length c.args.plan.now = let a = c.args in
    let f = c.fits in
    there a.plan.now a.at 7 f.result f.ensures (ap not c.if-not-fits.false) in
    omega (arith, room)

pub bounds-plan-at : goal.bounds-plan-at
bounds-plan-at c =
    let room : c.args.at + 7 ≤ length c.args.plan.now = let a = c.args in
    let f = c.fits in
    there a.plan.now a.at 7 f.result f.ensures (ap not c.if-not-fits.false) in
    omega (arith, room)

pub returns-in_err-f : goal.returns-in_err-f
returns-in_err-f c =
    let a = c.args in
    let x = c.ok in
    let e = ap tried x.ensures.value ∙ tried_read c.try_from.result ∙ c.try_from.ensures in
    rw c.from_residual.ensures (apply_bad a.plan.now a.at x.result e c.in_err-f.was)

pub returns : goal.returns
returns c =
    let a = c.args in
    let f = c.fits in
    let w = c.word2-t in
    let y = c.byte-c in
    let z = c.byte-d in
    let x = c.ok in
    let e = ap tried x.ensures.value ∙ tried_read c.try_from.result ∙ c.try_from.ensures in
    apply_sound a.plan.now a.at x.result e f.result f.ensures (ap not c.if-not-fits.false)
    w.result y.result z.result w.ensures.0 y.ensures.0 z.ensures.0 c.in_ok-f.f c.in_ok-f.was
    c.sound.result c.sound.ensures
