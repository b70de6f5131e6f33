-- `value` meets its contract: cut, or its fields as they stand.
use mathlib.Core.Bool.{not}
use mathlib.Core.Path.{ap}
use Prim.Native.Nat.{◌+◌, ◌≤◌}
use native.Mathlib.Omega.{arith}
use lib.ListN.{length}
use Rattle.plan_records.specs.declared.Operator.TheVariants as Operator
use Rattle.plan_records.specs.Arms as Arms
use Rattle.plan_records.specs.Decoded.{operator_of, ColumnsStand}
use Rattle.plan_records.proofs.Sized.{there, cut_reads, sound_reads}
use Rattle.plan_records.proofs.records.value.Goals as goal

pub returns-then-not-fits : goal.returns-then-not-fits
unfolding Arms.value
returns-then-not-fits c =
    let a = c.args in
    let f = c.fits in
    cut_reads a.plan.now a.at 6 f.result f.ensures _ (ap not c.if-not-fits.true)

pub overflow_add-next : goal.overflow_add-next
overflow_add-next c =
    let room : c.args.at + 6 ≤ length c.args.plan.now = let a = c.args in
    let f = c.fits in
    there a.plan.now a.at 6 f.result f.ensures (ap not c.if-not-fits.false) in
    omega (arith, room)

pub overflow_add-at : goal.overflow_add-at
overflow_add-at c =
    let room : c.args.at + 6 ≤ length c.args.plan.now = let a = c.args in
    let f = c.fits in
    there a.plan.now a.at 6 f.result f.ensures (ap not c.if-not-fits.false) in
    omega (arith, room)

pub word2-t-requires : goal.word2-t-requires
word2-t-requires c =
    let room : c.args.at + 6 ≤ length c.args.plan.now = let a = c.args in
    let f = c.fits in
    there a.plan.now a.at 6 f.result f.ensures (ap not c.if-not-fits.false) in
    omega (arith, room)

pub overflow_add-at-2 : goal.overflow_add-at-2
overflow_add-at-2 c =
    let room : c.args.at + 6 ≤ length c.args.plan.now = let a = c.args in
    let f = c.fits in
    there a.plan.now a.at 6 f.result f.ensures (ap not c.if-not-fits.false) in
    omega (arith, room)

pub byte-c-requires : goal.byte-c-requires
byte-c-requires c =
    let room : c.args.at + 6 ≤ length c.args.plan.now = let a = c.args in
    let f = c.fits in
    there a.plan.now a.at 6 f.result f.ensures (ap not c.if-not-fits.false) in
    omega (arith, room)

pub returns : goal.returns
unfolding Arms.value operator_of ColumnsStand
returns c =
    let a = c.args in
    let f = c.fits in
    let w = c.word2-t in
    let x = c.byte-c in
    sound_reads a.plan.now a.at 6 f.result f.ensures _ c.sound.result
    (Operator.Value w.result x.result)
    (ap not c.if-not-fits.false) c.sound.ensures tt (rw (← w.ensures.0, ← x.ensures.0))
