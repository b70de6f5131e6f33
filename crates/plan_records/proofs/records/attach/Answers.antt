-- `attach` meets its contract: cut, a bad field, or its fields as they stand.
use mathlib.Core.Bool.{not}
use Prim.Native.Nat.{◌+◌, ◌≤◌}
use native.Mathlib.Omega.{arith}
use lib.ListN.{length}
use mathlib.Core.Path.{◌∙◌, ap}
use mir.Syntax.{w64}
use mir.Val.{to_z, of_z}
use mir.ValLaws.{to_z-of_z}
use Rattle.plan_records.specs.Arms as Arms
use Rattle.plan_records.proofs.Sized.{there, cut_reads}
use Rattle.plan_records.proofs.Arms.{attach_bad, attach_sound}
use Rattle.plan_records.proofs.records.attach.Goals as goal

pub returns-then-not-fits : goal.returns-then-not-fits
unfolding Arms.attach
returns-then-not-fits c =
    let a = c.args in
    let f = c.fits in
    cut_reads a.plan.now a.at 12 f.result f.ensures _ (ap not c.if-not-fits.true)

pub overflow_add-next : goal.overflow_add-next
overflow_add-next c =
    let room : c.args.at + 12 ≤ length c.args.plan.now = let a = c.args in
    let f = c.fits in
    there a.plan.now a.at 12 f.result f.ensures (ap not c.if-not-fits.false) in
    omega (arith, room)

pub overflow_add-at : goal.overflow_add-at
overflow_add-at c =
    let room : c.args.at + 12 ≤ length c.args.plan.now = let a = c.args in
    let f = c.fits in
    there a.plan.now a.at 12 f.result f.ensures (ap not c.if-not-fits.false) in
    omega (arith, room)

pub word2-t-requires : goal.word2-t-requires
word2-t-requires c =
    let room : c.args.at + 12 ≤ length c.args.plan.now = let a = c.args in
    let f = c.fits in
    there a.plan.now a.at 12 f.result f.ensures (ap not c.if-not-fits.false) in
    omega (arith, room)

pub overflow_add-at-2 : goal.overflow_add-at-2
overflow_add-at-2 c =
    let room : c.args.at + 12 ≤ length c.args.plan.now = let a = c.args in
    let f = c.fits in
    there a.plan.now a.at 12 f.result f.ensures (ap not c.if-not-fits.false) in
    omega (arith, room)

pub int8-cell-requires : goal.int8-cell-requires
int8-cell-requires c =
    let room : c.args.at + 12 ≤ length c.args.plan.now = let a = c.args in
    let f = c.fits in
    there a.plan.now a.at 12 f.result f.ensures (ap not c.if-not-fits.false) in
    omega (arith, room)

pub returns-then-not-plain : goal.returns-then-not-plain
returns-then-not-plain c =
    let a = c.args in
    let z = c.int8-cell in
    let p = c.plain in
    attach_bad a.plan.now a.at (to_z w64 (of_z w64 z.result))
    (to_z-of_z w64 z.result (record { sfits = z.type_inv }) ∙ z.ensures)
    p.result p.ensures (ap not c.if-not-plain.true)

pub returns : goal.returns
returns c =
    let a = c.args in
    let f = c.fits in
    let w = c.word2-t in
    let z = c.int8-cell in
    let p = c.plain in
    attach_sound a.plan.now a.at (to_z w64 (of_z w64 z.result))
    (to_z-of_z w64 z.result (record { sfits = z.type_inv }) ∙ z.ensures)
    p.result p.ensures f.result f.ensures (ap not c.if-not-fits.false) (ap not c.if-not-plain.false)
    w.result w.ensures.0 c.sound.result c.sound.ensures
