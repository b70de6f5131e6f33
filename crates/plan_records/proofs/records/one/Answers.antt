-- `one` meets its contract: cut, or its fields as they stand.
use mathlib.Core.Bool.{not}
use Prim.Native.Nat.{◌+◌, ◌≤◌}
use native.Mathlib.Omega.{arith}
use lib.ListN.{length}
use mathlib.Core.Path.{refl, ap}
use Rattle.plan_records.specs.declared.Operator.TheVariants as Operator
use Rattle.plan_records.specs.Arms as Arms
use Rattle.plan_records.specs.Decoded.{operator_of, ColumnsStand}
use Rattle.plan_records.proofs.Sized.{there, cut_reads, sound_reads}
use Rattle.plan_records.proofs.records.one.Goals as goal

pub returns-then-not-fits : goal.returns-then-not-fits
unfolding Arms.one
returns-then-not-fits c =
    let a = c.args in
    let f = c.fits in
    cut_reads a.plan.now a.at 2 f.result f.ensures _ (ap not c.if-not-fits.true)

pub overflow_add-next : goal.overflow_add-next
overflow_add-next c =
    let room : c.args.at + 2 ≤ length c.args.plan.now = let a = c.args in
    let f = c.fits in
    there a.plan.now a.at 2 f.result f.ensures (ap not c.if-not-fits.false) in
    omega (arith, room)

pub returns : goal.returns
unfolding Arms.one operator_of ColumnsStand
returns c =
    let a = c.args in
    let f = c.fits in
    sound_reads a.plan.now a.at 2 f.result f.ensures _ c.sound.result Operator.One
    (ap not c.if-not-fits.false) c.sound.ensures tt refl
