-- `variable` meets its contract: cut, by `fits`; each number of the field by the definition's own table.
use mathlib.Core.Path.{◌≡◌}
use mathlib.Core.Bool.{true}
use native.Mathlib.Omega.{arith}
use Rattle.cells.specs.Bytes.{byte_at, fits}
use Prim.Native.Nat.{◌+◌, ◌≤◌}
use lib.ListN.{length}
use Rattle.laws.specs.Attempt.{provided}
use Rattle.meaning.specs.Query.{variable_of}
use Rattle.query_records.specs.Arms.{variable_at}
use borrow.Author.Tests.{lt-ltb, le-ltb}
use Rattle.cells.proofs.Cut.{fits_cut, fits_room, fits_there}
use mathlib.Core.Path.{ap}
use mathlib.Core.Bool.{not}
use Rattle.query_records.proofs.variable.Goals as goal

pub returns-then-not-fits : goal.returns-then-not-fits
unfolding variable_at provided
returns-then-not-fits c =
    let a = c.args in
    let f = c.fits in
    rw (fits_cut f.result a.query.now a.at 3 f.ensures (ap not c.if-not-fits.true))

pub overflow_add-byte : goal.overflow_add-byte
overflow_add-byte c =
    let room : c.args.at + 3 ≤ length c.args.query.now = let a = c.args in
    let f = c.fits in
    fits_room f.result a.query.now a.at 3 f.ensures (ap not c.if-not-fits.false) in
    omega (arith, room)

pub bounds-query-at : goal.bounds-query-at
bounds-query-at c =
    let room : c.args.at + 3 ≤ length c.args.query.now = let a = c.args in
    let f = c.fits in
    fits_room f.result a.query.now a.at 3 f.ensures (ap not c.if-not-fits.false) in
    omega (arith, room)

pub returns-in-0-to-7 : goal.returns-in-0-to-7
unfolding variable_at variable_of provided
returns-in-0-to-7 c =
    let there : fits c.args.query.now c.args.at 3 ≡ true = let a = c.args in
    let f = c.fits in
    fits_there f.result a.query.now a.at 3 f.ensures (ap not c.if-not-fits.false) in
    let a = c.args in
    rw (c.from.ensures, there, lt-ltb (byte_at a.query.now (a.at + 2)) 8 (omega arith))

pub returns-in-8-to-255 : goal.returns-in-8-to-255
unfolding variable_at variable_of provided
returns-in-8-to-255 c =
    let there : fits c.args.query.now c.args.at 3 ≡ true = let a = c.args in
    let f = c.fits in
    fits_there f.result a.query.now a.at 3 f.ensures (ap not c.if-not-fits.false) in
    let a = c.args in
    rw (there, le-ltb (byte_at a.query.now (a.at + 2)) 8 (omega arith))
