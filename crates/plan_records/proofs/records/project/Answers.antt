-- `project` meets its contract: cut, a bad field, or its fields as they stand.
use mathlib.Core.Bool.{not}
use mathlib.Core.Path.{ap}
use Prim.Native.Nat.{◌+◌, ◌≤◌}
use native.Mathlib.Omega.{arith}
use lib.ListN.{length}
use Rattle.plan_records.proofs.Sized.{there}
use Rattle.plan_records.proofs.Arms.{in_range_lem, before_range, past_range}
use Rattle.plan_records.proofs.Arms.{project_short, project_cut, project_bad, project_sound}
use Rattle.plan_records.proofs.records.project.Goals as goal

pub returns-then-not-fits : goal.returns-then-not-fits
returns-then-not-fits c =
    let a = c.args in
    let f = c.fits in
    project_short a.plan.now a.at f.result f.ensures (ap not c.if-not-fits.true)

pub overflow_add-at : goal.overflow_add-at
overflow_add-at c =
    let room : c.args.at + 5 ≤ length c.args.plan.now = let a = c.args in
    let f = c.fits in
    there a.plan.now a.at 5 f.result f.ensures (ap not c.if-not-fits.false) in
    omega (arith, room)

pub byte-n-requires : goal.byte-n-requires
byte-n-requires c =
    let room : c.args.at + 5 ≤ length c.args.plan.now = let a = c.args in
    let f = c.fits in
    there a.plan.now a.at 5 f.result f.ensures (ap not c.if-not-fits.false) in
    omega (arith, room)

pub overflow_add-size : goal.overflow_add-size
overflow_add-size c =
    omega (arith, c.byte-n.ensures.1)

pub returns-then-not-fits-2 : goal.returns-then-not-fits-2
returns-then-not-fits-2 c =
    let a = c.args in
    let n = c.byte-n in
    let f = c.fits-2 in
    project_cut a.plan.now a.at n.result n.ensures.0 f.result f.ensures (ap not c.if-not-fits-2.true)

pub overflow_add-next : goal.overflow_add-next
overflow_add-next c =
    let whole : c.args.at + (5 + c.byte-n.result) ≤ length c.args.plan.now = let a = c.args in
    let n = c.byte-n in
    let f = c.fits-2 in
    there a.plan.now a.at (5 + n.result) f.result f.ensures (ap not c.if-not-fits-2.false) in
    omega (arith, whole)

pub overflow_add-at-2 : goal.overflow_add-at-2
overflow_add-at-2 c =
    let whole : c.args.at + (5 + c.byte-n.result) ≤ length c.args.plan.now = let a = c.args in
    let n = c.byte-n in
    let f = c.fits-2 in
    there a.plan.now a.at (5 + n.result) f.result f.ensures (ap not c.if-not-fits-2.false) in
    omega (arith, whole)

pub word2-t-requires : goal.word2-t-requires
word2-t-requires c =
    let whole : c.args.at + (5 + c.byte-n.result) ≤ length c.args.plan.now = let a = c.args in
    let n = c.byte-n in
    let f = c.fits-2 in
    there a.plan.now a.at (5 + n.result) f.result f.ensures (ap not c.if-not-fits-2.false) in
    omega (arith, whole)

pub overflow_add-from : goal.overflow_add-from
overflow_add-from c =
    let whole : c.args.at + (5 + c.byte-n.result) ≤ length c.args.plan.now = let a = c.args in
    let n = c.byte-n in
    let f = c.fits-2 in
    there a.plan.now a.at (5 + n.result) f.result f.ensures (ap not c.if-not-fits-2.false) in
    omega (arith, whole)

pub returns-in-1-to-6 : goal.returns-in-1-to-6
returns-in-1-to-6 c =
    let a = c.args in
    let n = c.byte-n in
    let f = c.fits-2 in
    let w = c.word2-t in
    project_sound a.plan.now a.at n.result n.ensures.0 f.result f.ensures (ap not c.if-not-fits-2.false)
    (in_range_lem 1 6 n.result (omega arith) (omega arith)) w.result w.ensures.0 c.sound.result
    c.sound.ensures

pub returns-in-0 : goal.returns-in-0
returns-in-0 c =
    let a = c.args in
    let n = c.byte-n in
    project_bad a.plan.now a.at n.result n.ensures.0 (before_range 1 6 n.result (omega arith))

pub returns-in-0-2 : goal.returns-in-0-2
returns-in-0-2 c =
    let a = c.args in
    let n = c.byte-n in
    project_bad a.plan.now a.at n.result n.ensures.0 (past_range 1 6 n.result (omega arith))
