-- `root` meets its contract: cut, a bad field, or its fields as they stand.
use mathlib.Core.Bool.{not}
use Prim.Native.Nat.{◌+◌, ◌≤◌}
use mathlib.Core.Path.{ap}
use native.Mathlib.Omega.{arith}
use lib.ListN.{length}
use Rattle.plan_records.specs.Arms as Arms
use Rattle.plan_records.proofs.Sized.{there, cut_reads}
use Rattle.plan_records.proofs.Arms.{root_bad, root_sound}
use Rattle.plan_records.proofs.records.root.Goals as goal

pub returns-then-not-fits : goal.returns-then-not-fits
unfolding Arms.root
returns-then-not-fits c =
    let a = c.args in
    let f = c.fits in
    cut_reads a.plan.now a.at 5 f.result f.ensures _ (ap not c.if-not-fits.true)

pub overflow_add-next : goal.overflow_add-next
overflow_add-next c =
    let room : c.args.at + 5 ≤ length c.args.plan.now = let a = c.args in
    let f = c.fits in
    there a.plan.now a.at 5 f.result f.ensures (ap not c.if-not-fits.false) in
    omega (arith, room)

pub overflow_add-at : goal.overflow_add-at
overflow_add-at c =
    let room : c.args.at + 5 ≤ length c.args.plan.now = let a = c.args in
    let f = c.fits in
    there a.plan.now a.at 5 f.result f.ensures (ap not c.if-not-fits.false) in
    omega (arith, room)

pub word2-t-requires : goal.word2-t-requires
word2-t-requires c =
    let room : c.args.at + 5 ≤ length c.args.plan.now = let a = c.args in
    let f = c.fits in
    there a.plan.now a.at 5 f.result f.ensures (ap not c.if-not-fits.false) in
    omega (arith, room)

pub overflow_add-at-2 : goal.overflow_add-at-2
overflow_add-at-2 c =
    let room : c.args.at + 5 ≤ length c.args.plan.now = let a = c.args in
    let f = c.fits in
    there a.plan.now a.at 5 f.result f.ensures (ap not c.if-not-fits.false) in
    omega (arith, room)

pub byte-k-requires : goal.byte-k-requires
byte-k-requires c =
    let room : c.args.at + 5 ≤ length c.args.plan.now = let a = c.args in
    let f = c.fits in
    there a.plan.now a.at 5 f.result f.ensures (ap not c.if-not-fits.false) in
    omega (arith, room)

pub returns-in-0 : goal.returns-in-0
returns-in-0 c =
    let a = c.args in
    root_bad a.plan.now a.at c.byte-k.result c.byte-k.ensures.0 c.in-0.is

pub returns-in_default : goal.returns-in_default
returns-in_default c =
    let a = c.args in
    let f = c.fits in
    let w = c.word2-t in
    let k = c.byte-k in
    root_sound a.plan.now a.at k.result k.ensures.0 f.result f.ensures (ap not c.if-not-fits.false)
    (λ h. omega arith) k.ensures.1
    w.result w.ensures.0 c.sound.result c.sound.ensures
