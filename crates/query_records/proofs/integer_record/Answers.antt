-- `integer_record` meets its contract: cut, by `fits`; each number of the field by the definition's own table.
use mathlib.Core.Path.{◌≡◌}
use mathlib.Core.Bool.{true}
use native.Mathlib.Omega.{arith}
use Rattle.cells.specs.Bytes.{fits}
use Prim.Native.Nat.{◌+◌, ◌≤◌}
use lib.ListN.{length}
use mathlib.Core.Path.{sym, ◌∙◌, ap}
use lib.IntN.{ℤ}
use mir.Syntax.{w32}
use mir.Val.{to_z, of_z}
use mir.ValLaws.{to_z-of_z}
use Rattle.cells.specs.Cell.{cell_of}
use Rattle.cells.specs.declared.Item.TheVariants as Item
use Rattle.laws.specs.Attempt.{gives}
use Rattle.meaning.specs.Query.{literal}
use Rattle.query_records.specs.declared.Record.TheVariants as Record
use Rattle.query_records.specs.Arms.{integer_record}
use Rattle.query_records.specs.Decoded.{record_of}
use Rattle.cells.proofs.Cut.{fits_cut, fits_room, fits_there}
use Rattle.query_records.proofs.Arms.{means_cut, means_sized}
use mathlib.Core.Bool.{not}
use Rattle.query_records.proofs.integer_record.Goals as goal

pub returns-then-not-fits : goal.returns-then-not-fits
unfolding integer_record
returns-then-not-fits c =
    let a = c.args in
    let f = c.fits in
    means_cut a.query.now a.at 6 _ (fits_cut f.result a.query.now a.at 6 f.ensures (ap not c.if-not-fits.true))

pub overflow_add-next : goal.overflow_add-next
overflow_add-next c =
    let room : c.args.at + 6 ≤ length c.args.query.now = let a = c.args in
    let f = c.fits in
    fits_room f.result a.query.now a.at 6 f.ensures (ap not c.if-not-fits.false) in
    omega (arith, room)

pub overflow_add-at : goal.overflow_add-at
overflow_add-at c =
    let room : c.args.at + 6 ≤ length c.args.query.now = let a = c.args in
    let f = c.fits in
    fits_room f.result a.query.now a.at 6 f.ensures (ap not c.if-not-fits.false) in
    omega (arith, room)

pub int4-requires : goal.int4-requires
int4-requires c =
    let room : c.args.at + 6 ≤ length c.args.query.now = let a = c.args in
    let f = c.fits in
    fits_room f.result a.query.now a.at 6 f.ensures (ap not c.if-not-fits.false) in
    omega (arith, room)

pub returns : goal.returns
unfolding integer_record record_of cell_of
returns c =
    let there : fits c.args.query.now c.args.at 6 ≡ true = let a = c.args in
    let f = c.fits in
    fits_there f.result a.query.now a.at 6 f.ensures (ap not c.if-not-fits.false) in
    let a = c.args in
    let z = c.int4 in
    means_sized a.query.now a.at 6 _ c.sound.result
    (Record.Literal (Item.Integer (to_z w32 (of_z w32 z.result))))
    c.sound.ensures there tt
    (ap (λ (i : ℤ). gives (literal i)) (sym z.ensures ∙ sym (to_z-of_z w32 z.result (record { sfits = z.type_inv }))))
