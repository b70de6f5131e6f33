-- `boolean_record` meets its contract: cut, by `fits`; each number of the field by the definition's own table.
use mathlib.Core.Path.{◌≡◌}
use mathlib.Core.Bool.{true, false}
use native.Mathlib.Omega.{arith}
use Rattle.cells.specs.Bytes.{byte_at, fits}
use Prim.Native.Nat.{◌+◌, ◌≤◌}
use lib.ListN.{length}
use Rattle.cells.specs.Cell.{cell_of}
use Rattle.cells.specs.declared.Item.TheVariants as Item
use Rattle.laws.specs.Attempt.{attempt}
use Rattle.meaning.specs.Query.{boolean_of}
use Rattle.query_records.specs.declared.Record.TheVariants as Record
use Rattle.query_records.specs.Arms.{boolean_record}
use Rattle.query_records.specs.Decoded.{record_of}
use Rattle.cells.proofs.Cut.{fits_cut, fits_room, fits_there}
use Rattle.query_records.proofs.Arms.{means_cut, means_fails, means_sized}
use Rattle.query_records.proofs.Arms.{boolean_none}
use mathlib.Core.Path.{ap}
use mathlib.Core.Bool.{not}
use Rattle.query_records.proofs.boolean_record.Goals as goal

pub returns-then-not-fits : goal.returns-then-not-fits
unfolding boolean_record
returns-then-not-fits c =
    let a = c.args in
    let f = c.fits in
    means_cut a.query.now a.at 3 _ (fits_cut f.result a.query.now a.at 3 f.ensures (ap not c.if-not-fits.true))

pub overflow_add-next : goal.overflow_add-next
overflow_add-next c =
    let room : c.args.at + 3 ≤ length c.args.query.now = let a = c.args in
    let f = c.fits in
    fits_room f.result a.query.now a.at 3 f.ensures (ap not c.if-not-fits.false) in
    omega (arith, room)

pub overflow_add-byte : goal.overflow_add-byte
overflow_add-byte c =
    let room : c.args.at + 3 ≤ length c.args.query.now = let a = c.args in
    let f = c.fits in
    fits_room f.result a.query.now a.at 3 f.ensures (ap not c.if-not-fits.false) in
    omega (arith, room)

pub bounds-query-at : goal.bounds-query-at
bounds-query-at c =
    let room : c.args.at + 3 ≤ length c.args.query.now = let a = c.args in
    let f = c.fits in
    fits_room f.result a.query.now a.at 3 f.ensures (ap not c.if-not-fits.false) in
    omega (arith, room)

pub returns-in-0 : goal.returns-in-0
unfolding boolean_record boolean_of attempt record_of cell_of
returns-in-0 c =
    let there : fits c.args.query.now c.args.at 3 ≡ true = let a = c.args in
    let f = c.fits in
    fits_there f.result a.query.now a.at 3 f.ensures (ap not c.if-not-fits.false) in
    let a = c.args in
    means_sized a.query.now a.at 3 _ c.sound.result (Record.Literal (Item.Truth false))
    c.sound.ensures there tt
    (rw c.in-0.is)

pub returns-in-1 : goal.returns-in-1
unfolding boolean_record boolean_of attempt record_of cell_of
returns-in-1 c =
    let there : fits c.args.query.now c.args.at 3 ≡ true = let a = c.args in
    let f = c.fits in
    fits_there f.result a.query.now a.at 3 f.ensures (ap not c.if-not-fits.false) in
    let a = c.args in
    means_sized a.query.now a.at 3 _ c.sound-in-1.result (Record.Literal (Item.Truth true))
    c.sound-in-1.ensures there tt
    (rw c.in-1.is)

pub returns-in-2-to-255 : goal.returns-in-2-to-255
unfolding boolean_record attempt
returns-in-2-to-255 c =
    let there : fits c.args.query.now c.args.at 3 ≡ true = let a = c.args in
    let f = c.fits in
    fits_there f.result a.query.now a.at 3 f.ensures (ap not c.if-not-fits.false) in
    let a = c.args in
    means_fails a.query.now a.at 3 _ there
    (rw (boolean_none (byte_at a.query.now (a.at + 2)) ((tt, λ h. omega arith), λ h. omega arith)))
