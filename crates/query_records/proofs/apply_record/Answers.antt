-- `apply_record` meets its contract: cut, by `fits`; the number of the function by `function_of`.
use Rattle.laws.specs.Attempt.{tried}
use Rattle.codes.proofs.Numbers.{tried_read}
use mathlib.Core.Path.{◌≡◌, ◌∙◌}
use mathlib.Core.Bool.{true}
use native.Mathlib.Omega.{arith}
use Rattle.cells.specs.Bytes.{fits}
use Prim.Native.Nat.{◌+◌, ◌≤◌}
use lib.ListN.{length}
use Rattle.query_records.specs.Arms.{apply_record}
use Rattle.cells.proofs.Cut.{fits_cut, fits_room, fits_there}
use Rattle.query_records.proofs.Arms.{means_cut, apply_none, apply_means}
use mathlib.Core.Path.{ap, ◌∙◌}
use mathlib.Core.Bool.{not}
use Rattle.query_records.proofs.apply_record.Goals as goal

pub returns-then-not-fits : goal.returns-then-not-fits
unfolding apply_record
returns-then-not-fits c =
    let a = c.args in
    let f = c.fits in
    means_cut a.query.now a.at 3 _ (fits_cut f.result a.query.now a.at 3 f.ensures (ap not c.if-not-fits.true))

pub overflow_add-next : goal.overflow_add-next
overflow_add-next c =
    let room : c.args.at + 3 ≤ length c.args.query.now = let a = c.args in
    let f = c.fits in
    fits_room f.result a.query.now a.at 3 f.ensures (ap not c.if-not-fits.false) in
    omega (arith, room)

pub overflow_add-at : goal.overflow_add-at
overflow_add-at c =
    let room : c.args.at + 3 ≤ length c.args.query.now = let a = c.args in
    let f = c.fits in
    fits_room f.result a.query.now a.at 3 f.ensures (ap not c.if-not-fits.false) in
    omega (arith, room)

pub bounds-query-at : goal.bounds-query-at
bounds-query-at c =
    let room : c.args.at + 3 ≤ length c.args.query.now = let a = c.args in
    let f = c.fits in
    fits_room f.result a.query.now a.at 3 f.ensures (ap not c.if-not-fits.false) in
    omega (arith, room)

pub returns-in_err-f : goal.returns-in_err-f
returns-in_err-f c =
    let there : fits c.args.query.now c.args.at 3 ≡ true = let a = c.args in
    let f = c.fits in
    fits_there f.result a.query.now a.at 3 f.ensures (ap not c.if-not-fits.false) in
    let a = c.args in
    let x = c.ok in
    let e = ap tried x.ensures.value ∙ tried_read c.try_from.result ∙ c.try_from.ensures in
    rw c.from_residual.ensures (apply_none a.query.now a.at there x.result e c.in_err-f.was)

pub returns : goal.returns
returns c =
    let there : fits c.args.query.now c.args.at 3 ≡ true = let a = c.args in
    let f = c.fits in
    fits_there f.result a.query.now a.at 3 f.ensures (ap not c.if-not-fits.false) in
    let a = c.args in
    let x = c.ok in
    let e = ap tried x.ensures.value ∙ tried_read c.try_from.result ∙ c.try_from.ensures in
    let f = c.in_ok-f in
    apply_means a.query.now a.at there x.result e f.f c.sound.result f.was c.sound.ensures
