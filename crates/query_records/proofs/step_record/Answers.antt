-- `step_record` meets its contract: cut, by `fits`; each number of the field by the definition's own table.
use Rattle.laws.specs.Attempt.{tried}
use Rattle.codes.proofs.Numbers.{tried_read}
use mathlib.Core.Path.{◌≡◌, ◌∙◌}
use mathlib.Core.Bool.{true}
use native.Mathlib.Omega.{arith}
use Rattle.cells.specs.Bytes.{fits}
use Prim.Native.Nat.{◌+◌, ◌≤◌}
use lib.ListN.{length}
use Rattle.query_records.specs.Arms.{step_record}
use Rattle.cells.proofs.Cut.{fits_cut, fits_room, fits_there}
use Rattle.query_records.proofs.Arms.{means_cut, step_no_axis, step_no_test}
use Rattle.query_records.proofs.Arms.{step_means}
use mathlib.Core.Path.{ap, ◌∙◌}
use mathlib.Core.Bool.{not}
use Rattle.query_records.proofs.step_record.Goals as goal

pub returns-then-not-fits : goal.returns-then-not-fits
unfolding step_record
returns-then-not-fits c =
    let a = c.args in
    let f = c.fits in
    means_cut a.query.now a.at 6 _ (fits_cut f.result a.query.now a.at 6 f.ensures (ap not c.if-not-fits.true))

pub overflow_add-next : goal.overflow_add-next
overflow_add-next c =
    let room : c.args.at + 6 ≤ length c.args.query.now = let a = c.args in
    let f = c.fits in
    fits_room f.result a.query.now a.at 6 f.ensures (ap not c.if-not-fits.false) in
    omega (arith, room)

pub overflow_add-at : goal.overflow_add-at
overflow_add-at c =
    let room : c.args.at + 6 ≤ length c.args.query.now = let a = c.args in
    let f = c.fits in
    fits_room f.result a.query.now a.at 6 f.ensures (ap not c.if-not-fits.false) in
    omega (arith, room)

pub bounds-query-at : goal.bounds-query-at
bounds-query-at c =
    let room : c.args.at + 6 ≤ length c.args.query.now = let a = c.args in
    let f = c.fits in
    fits_room f.result a.query.now a.at 6 f.ensures (ap not c.if-not-fits.false) in
    omega (arith, room)

pub overflow_add-at-2 : goal.overflow_add-at-2
overflow_add-at-2 c =
    let room : c.args.at + 6 ≤ length c.args.query.now = let a = c.args in
    let f = c.fits in
    fits_room f.result a.query.now a.at 6 f.ensures (ap not c.if-not-fits.false) in
    omega (arith, room)

pub bounds-query-at-2 : goal.bounds-query-at-2
bounds-query-at-2 c =
    let room : c.args.at + 6 ≤ length c.args.query.now = let a = c.args in
    let f = c.fits in
    fits_room f.result a.query.now a.at 6 f.ensures (ap not c.if-not-fits.false) in
    omega (arith, room)

pub overflow_add-at-3 : goal.overflow_add-at-3
overflow_add-at-3 c =
    let room : c.args.at + 6 ≤ length c.args.query.now = let a = c.args in
    let f = c.fits in
    fits_room f.result a.query.now a.at 6 f.ensures (ap not c.if-not-fits.false) in
    omega (arith, room)

pub word2-requires : goal.word2-requires
word2-requires c =
    let room : c.args.at + 6 ≤ length c.args.query.now = let a = c.args in
    let f = c.fits in
    fits_room f.result a.query.now a.at 6 f.ensures (ap not c.if-not-fits.false) in
    omega (arith, room)

pub returns-in_err-axis : goal.returns-in_err-axis
returns-in_err-axis c =
    let there : fits c.args.query.now c.args.at 6 ≡ true = let a = c.args in
    let f = c.fits in
    fits_there f.result a.query.now a.at 6 f.ensures (ap not c.if-not-fits.false) in
    let a = c.args in
    let x = c.ok in
    let e = ap tried x.ensures.value ∙ tried_read c.try_from.result ∙ c.try_from.ensures in
    rw c.from_residual.ensures (step_no_axis a.query.now a.at there x.result e c.in_err-axis.was)

pub returns-in_err-test : goal.returns-in_err-test
returns-in_err-test c =
    let there : fits c.args.query.now c.args.at 6 ≡ true = let a = c.args in
    let f = c.fits in
    fits_there f.result a.query.now a.at 6 f.ensures (ap not c.if-not-fits.false) in
    let a = c.args in
    let x = c.ok in
    let e = ap tried x.ensures.value ∙ tried_read c.try_from.result ∙ c.try_from.ensures in
    let n = c.word2 in
    let t = c.test_of in
    rw c.from_residual-in_err-test.ensures
    (step_no_test a.query.now a.at there x.result e n.result n.ensures.0
    t.result t.ensures c.in_ok-axis.axis c.in_ok-axis.was c.in_err-test.was)

pub returns : goal.returns
returns c =
    let there : fits c.args.query.now c.args.at 6 ≡ true = let a = c.args in
    let f = c.fits in
    fits_there f.result a.query.now a.at 6 f.ensures (ap not c.if-not-fits.false) in
    let a = c.args in
    let x = c.ok in
    let e = ap tried x.ensures.value ∙ tried_read c.try_from.result ∙ c.try_from.ensures in
    let axis = c.in_ok-axis in
    let n = c.word2 in
    let t = c.test_of in
    let test = c.in_ok-test in
    step_means a.query.now a.at there x.result e n.result n.ensures.0
    t.result t.ensures axis.axis axis.was test.test c.sound.result test.was c.sound.ensures
