-- `read` meets its contract: the mark picks the arm, each arm's function means that arm of the definition.
use Prim.Native.Nat.{◌+◌, ◌≤◌}
use mathlib.Core.Path.{◌≡◌, refl}
use mathlib.Core.Bool.{true}
use native.Mathlib.Omega.{arith}
use borrow.Author.Rules.{rules}
use lib.ListN.{length}
use Rattle.cells.specs.Bytes.{word, fits}
use Rattle.meaning.specs.Query as Query
use Rattle.query_records.specs.declared.Record.TheVariants as Record
use Rattle.query_records.specs.Arms.{variable_record, integer_record, boolean_record, root_record, apply_record}
use Rattle.query_records.specs.Arms.{step_record}
use Rattle.query_records.specs.Decoded.{record_of}
use Rattle.cells.proofs.Cut.{fits_cut, fits_room, fits_there}
use Rattle.query_records.proofs.Arms.{means_sized, means_mark, means_none}
use Rattle.std.specs.Prelude.{None}
use Rattle.query_records.proofs.Arms.{variable_room, variable_fails, variable_means}
use Rattle.query_records.proofs.Arms.{record_cut, record_gap, record_none}
use mathlib.Core.Path.{ap}
use mathlib.Core.Bool.{not}
use Rattle.query_records.proofs.read.Goals as goal

pub returns-then-not-fits : goal.returns-then-not-fits
returns-then-not-fits c =
    let a = c.args in
    let f = c.fits in
    means_none a.query.now a.at _
    (record_cut a.query.now a.at (word a.query.now a.at 2)
    (fits_cut f.result a.query.now a.at 2 f.ensures (ap not c.if-not-fits.true)))

pub overflow_add-next : goal.overflow_add-next
overflow_add-next c =
    let room : c.args.at + 2 ≤ length c.args.query.now = let a = c.args in
    let f = c.fits in
    fits_room f.result a.query.now a.at 2 f.ensures (ap not c.if-not-fits.false) in
    omega (arith, room)

pub word2-mark-requires : goal.word2-mark-requires
word2-mark-requires c =
    let room : c.args.at + 2 ≤ length c.args.query.now = let a = c.args in
    let f = c.fits in
    fits_room f.result a.query.now a.at 2 f.ensures (ap not c.if-not-fits.false) in
    omega (arith, room)

pub returns-in-20812 : goal.returns-in-20812
unfolding Query.record_of integer_record
returns-in-20812 c =
    let a = c.args in
    let m = c.word2-mark in
    means_mark a.query.now a.at c.integer_record.result m.result 0x514C
    m.ensures.0 c.in-20812.is
    c.integer_record.ensures

pub returns-in-20802 : goal.returns-in-20802
unfolding Query.record_of boolean_record
returns-in-20802 c =
    let a = c.args in
    let m = c.word2-mark in
    means_mark a.query.now a.at c.boolean_record.result m.result 0x5142
    m.ensures.0 c.in-20802.is
    c.boolean_record.ensures

pub returns-in-20805 : goal.returns-in-20805
unfolding Query.record_of record_of
returns-in-20805 c =
    let there : fits c.args.query.now c.args.at 2 ≡ true = let a = c.args in
    let f = c.fits in
    fits_there f.result a.query.now a.at 2 f.ensures (ap not c.if-not-fits.false) in
    let a = c.args in
    let m = c.word2-mark in
    means_mark a.query.now a.at c.sound.result m.result 0x5145 m.ensures.0 c.in-20805.is
    (means_sized a.query.now a.at 2 _ c.sound.result Record.Empty
    c.sound.ensures there tt refl)

pub returns-in-20818 : goal.returns-in-20818
unfolding Query.record_of root_record
returns-in-20818 c =
    let a = c.args in
    let m = c.word2-mark in
    means_mark a.query.now a.at c.root_record.result m.result 0x5152
    m.ensures.0 c.in-20818.is
    c.root_record.ensures

pub returns-in-20819 : goal.returns-in-20819
unfolding Query.record_of record_of
returns-in-20819 c =
    let there : fits c.args.query.now c.args.at 2 ≡ true = let a = c.args in
    let f = c.fits in
    fits_there f.result a.query.now a.at 2 f.ensures (ap not c.if-not-fits.false) in
    let a = c.args in
    let m = c.word2-mark in
    means_mark a.query.now a.at c.sound-in-20819.result m.result 0x5153 m.ensures.0 c.in-20819.is
    (means_sized a.query.now a.at 2 _ c.sound-in-20819.result Record.Sequence
    c.sound-in-20819.ensures there tt refl)

pub returns-in-20809 : goal.returns-in-20809
unfolding Query.record_of record_of
returns-in-20809 c =
    let there : fits c.args.query.now c.args.at 2 ≡ true = let a = c.args in
    let f = c.fits in
    fits_there f.result a.query.now a.at 2 f.ensures (ap not c.if-not-fits.false) in
    let a = c.args in
    let m = c.word2-mark in
    means_mark a.query.now a.at c.sound-in-20809.result m.result 0x5149 m.ensures.0 c.in-20809.is
    (means_sized a.query.now a.at 2 _ c.sound-in-20809.result Record.If
    c.sound-in-20809.ensures there tt refl)

pub returns-in-20815 : goal.returns-in-20815
unfolding Query.record_of apply_record
returns-in-20815 c =
    let a = c.args in
    let m = c.word2-mark in
    means_mark a.query.now a.at c.apply_record.result m.result 0x514F
    m.ensures.0 c.in-20815.is
    c.apply_record.ensures

pub returns-in-20803 : goal.returns-in-20803
unfolding Query.record_of record_of
returns-in-20803 c =
    let there : fits c.args.query.now c.args.at 2 ≡ true = let a = c.args in
    let f = c.fits in
    fits_there f.result a.query.now a.at 2 f.ensures (ap not c.if-not-fits.false) in
    let a = c.args in
    let m = c.word2-mark in
    means_mark a.query.now a.at c.sound-in-20803.result m.result 0x5143 m.ensures.0 c.in-20803.is
    (means_sized a.query.now a.at 2 _ c.sound-in-20803.result Record.Count
    c.sound-in-20803.ensures there tt refl)

pub returns-in-20804 : goal.returns-in-20804
unfolding Query.record_of record_of
returns-in-20804 c =
    let there : fits c.args.query.now c.args.at 2 ≡ true = let a = c.args in
    let f = c.fits in
    fits_there f.result a.query.now a.at 2 f.ensures (ap not c.if-not-fits.false) in
    let a = c.args in
    let m = c.word2-mark in
    means_mark a.query.now a.at c.sound-in-20804.result m.result 0x5144 m.ensures.0 c.in-20804.is
    (means_sized a.query.now a.at 2 _ c.sound-in-20804.result Record.Data
    c.sound-in-20804.ensures there tt refl)

pub returns-in-20824 : goal.returns-in-20824
unfolding Query.record_of step_record
returns-in-20824 c =
    let a = c.args in
    let m = c.word2-mark in
    means_mark a.query.now a.at c.step_record.result m.result 0x5158
    m.ensures.0 c.in-20824.is
    c.step_record.ensures

pub returns-in-0-to-20801 : goal.returns-in-0-to-20801
returns-in-0-to-20801 c =
    let a = c.args in
    let m = c.word2-mark in
    means_none a.query.now a.at _
    (rw (← m.ensures.0) (record_gap a.query.now a.at m.result (search rules)))

pub returns-in-0-to-20801-2 : goal.returns-in-0-to-20801-2
returns-in-0-to-20801-2 c =
    let a = c.args in
    let m = c.word2-mark in
    means_none a.query.now a.at _
    (rw (← m.ensures.0) (record_none a.query.now a.at m.result (search rules)))

pub overflow_add-at : goal.overflow_add-at
overflow_add-at c =
    let a = c.args in
    let x = c.variable in
    let v = c.in_ok-variable-in-20822 in
    omega (arith, variable_room a.query.now a.at x.result x.ensures v.field-0 v.was)

pub returns-in_err-variable-in-20822 : goal.returns-in_err-variable-in-20822
unfolding Query.record_of variable_record
returns-in_err-variable-in-20822 c =
    let a = c.args in
    let m = c.word2-mark in
    let x = c.variable in
    rw c.from_residual.ensures
    (means_mark a.query.now a.at None m.result 0x5156 m.ensures.0 c.in-20822.is
    (variable_fails a.query.now a.at Query.variable x.result x.ensures c.in_err-variable-in-20822.was))

pub returns-in_ok-variable-in-20822 : goal.returns-in_ok-variable-in-20822
unfolding Query.record_of variable_record record_of
returns-in_ok-variable-in-20822 c =
    let a = c.args in
    let m = c.word2-mark in
    let x = c.variable in
    let v = c.in_ok-variable-in-20822 in
    let s = c.sound-in-20822 in
    means_mark a.query.now a.at s.result m.result 0x5156 m.ensures.0 c.in-20822.is
    (variable_means a.query.now a.at Query.variable x.result x.ensures
    s.result (Record.Variable v.field-0) v.field-0 s.ensures v.was tt refl)

pub overflow_add-at-in-20820 : goal.overflow_add-at-in-20820
overflow_add-at-in-20820 c =
    let a = c.args in
    let x = c.variable-in-20820 in
    let v = c.in_ok-variable-in-20820 in
    omega (arith, variable_room a.query.now a.at x.result x.ensures v.field-0 v.was)

pub returns-in_err-variable-in-20820 : goal.returns-in_err-variable-in-20820
unfolding Query.record_of variable_record
returns-in_err-variable-in-20820 c =
    let a = c.args in
    let m = c.word2-mark in
    let x = c.variable-in-20820 in
    rw c.from_residual-in_err-variable-in-20820.ensures
    (means_mark a.query.now a.at None m.result 0x5154 m.ensures.0 c.in-20820.is
    (variable_fails a.query.now a.at Query.letting x.result x.ensures c.in_err-variable-in-20820.was))

pub returns-in_ok-variable-in-20820 : goal.returns-in_ok-variable-in-20820
unfolding Query.record_of variable_record record_of
returns-in_ok-variable-in-20820 c =
    let a = c.args in
    let m = c.word2-mark in
    let x = c.variable-in-20820 in
    let v = c.in_ok-variable-in-20820 in
    let s = c.sound-in-20820 in
    means_mark a.query.now a.at s.result m.result 0x5154 m.ensures.0 c.in-20820.is
    (variable_means a.query.now a.at Query.letting x.result x.ensures
    s.result (Record.Let v.field-0) v.field-0 s.ensures v.was tt refl)

pub overflow_add-at-in-20806 : goal.overflow_add-at-in-20806
overflow_add-at-in-20806 c =
    let a = c.args in
    let x = c.variable-in-20806 in
    let v = c.in_ok-variable-in-20806 in
    omega (arith, variable_room a.query.now a.at x.result x.ensures v.field-0 v.was)

pub returns-in_err-variable-in-20806 : goal.returns-in_err-variable-in-20806
unfolding Query.record_of variable_record
returns-in_err-variable-in-20806 c =
    let a = c.args in
    let m = c.word2-mark in
    let x = c.variable-in-20806 in
    rw c.from_residual-in_err-variable-in-20806.ensures
    (means_mark a.query.now a.at None m.result 0x5146 m.ensures.0 c.in-20806.is
    (variable_fails a.query.now a.at Query.for x.result x.ensures c.in_err-variable-in-20806.was))

pub returns-in_ok-variable-in-20806 : goal.returns-in_ok-variable-in-20806
unfolding Query.record_of variable_record record_of
returns-in_ok-variable-in-20806 c =
    let a = c.args in
    let m = c.word2-mark in
    let x = c.variable-in-20806 in
    let v = c.in_ok-variable-in-20806 in
    let s = c.sound-in-20806 in
    means_mark a.query.now a.at s.result m.result 0x5146 m.ensures.0 c.in-20806.is
    (variable_means a.query.now a.at Query.for x.result x.ensures
    s.result (Record.For v.field-0) v.field-0 s.ensures v.was tt refl)
