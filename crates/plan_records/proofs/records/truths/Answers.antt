-- `truths` meets its contract: cut, or its fields as they stand.
use mathlib.Core.Bool.{not}
use mathlib.Core.Path.{ap}
use Prim.Native.Nat.{◌+◌, ◌≤◌}
use native.Mathlib.Omega.{arith}
use lib.ListN.{length}
use Rattle.plan_records.specs.declared.Operator.TheVariants as Operator
use Rattle.plan_records.specs.Arms as Arms
use Rattle.plan_records.specs.Decoded.{operator_of, ColumnsStand}
use Rattle.plan_records.proofs.Sized.{there, cut_reads, sound_reads}
use Rattle.plan_records.proofs.records.truths.Goals as goal

pub returns-then-not-fits : goal.returns-then-not-fits
unfolding Arms.truths
returns-then-not-fits c =
    let a = c.args in
    let f = c.fits in
    cut_reads a.plan.now a.at 4 f.result f.ensures _ (ap not c.if-not-fits.true)

pub overflow_add-next : goal.overflow_add-next
overflow_add-next c =
    let room : c.args.at + 4 ≤ length c.args.plan.now = let a = c.args in
    let f = c.fits in
    there a.plan.now a.at 4 f.result f.ensures (ap not c.if-not-fits.false) in
    omega (arith, room)

pub overflow_add-at : goal.overflow_add-at
overflow_add-at c =
    let room : c.args.at + 4 ≤ length c.args.plan.now = let a = c.args in
    let f = c.fits in
    there a.plan.now a.at 4 f.result f.ensures (ap not c.if-not-fits.false) in
    omega (arith, room)

pub word2-t-requires : goal.word2-t-requires
word2-t-requires c =
    let room : c.args.at + 4 ≤ length c.args.plan.now = let a = c.args in
    let f = c.fits in
    there a.plan.now a.at 4 f.result f.ensures (ap not c.if-not-fits.false) in
    omega (arith, room)

pub returns : goal.returns
unfolding Arms.truths operator_of ColumnsStand
returns c =
    let a = c.args in
    let f = c.fits in
    let w = c.word2-t in
    sound_reads a.plan.now a.at 4 f.result f.ensures _ c.sound.result (Operator.Truths w.result)
    (ap not c.if-not-fits.false) c.sound.ensures tt (rw (← w.ensures.0))
