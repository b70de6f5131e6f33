-- `rows_sound` meets its contract. The invariant of its loop: the rows before r passed, so that the checks from r on,
-- of as many rows as may still be there, give what the whole gives.
use Prim.Native.Nat.{ℕ, ◌≤◌, ◌+◌, ◌*◌, ◌-◌}
use native.Mathlib.Omega.{arith}
use mathlib.Core.Bool.{true}
use mathlib.Core.Path.{◌≡◌, refl, ap, ◌∙◌}
use lib.ListN.{length}
use Rattle.meaning.specs.Catalogue.{catalogue_of, row_sound, rows_sound}
use Rattle.doc_rows.specs.Fields.{level_at}
use Rattle.catalogue.specs.Answers.{counted}
use Rattle.doc_rows.proofs.Rows.{row}
use Rattle.sound_rows.proofs.Tests.{row_read, row_unread}
use Rattle.catalogue.proofs.Turns.{turn_end, turn_over, turn_bad, turn_on}
use Rattle.catalogue.proofs.rows_sound.Goals as goal

pub loop-r-init : goal.loop-r-init
loop-r-init c =
    (omega arith, refl)

pub overflow_mul-at : goal.overflow_mul-at
overflow_mul-at c =
    omega arith

pub returns-then-doc-at : goal.returns-then-doc-at
unfolding counted
returns-then-doc-at c =
    turn_end c.args.doc.now c.loop-r.r c.loop-r.most 2048 c.if-doc-at.true ∙ c.loop-r.invariant.1

pub read_row-requires : goal.read_row-requires
read_row-requires c =
    omega arith

pub returns-in_default : goal.returns-in_default
unfolding counted
returns-in_default c =
    rw c.unsound.ensures
    (turn_bad c.args.doc.now c.loop-r.r c.loop-r.most 2048 (omega arith) (omega arith)
    (row_unread _ _ c.read_row.result c.read_row.ensures c.in_default.is) ∙ c.loop-r.invariant.1)

pub overflow_add-most : goal.overflow_add-most
unfolding catalogue_of level_at
overflow_add-most c =
    let passes = row_read _ _ c.read_row.result c.read_row.ensures c.in-Some.is in
    let shallow : level_at c.args.doc.now c.loop-r.r ≤ 63 =
    (row c.args.doc.now c.loop-r.r c.loop-r.most 0 passes.0).1.shallow in
    omega (arith, passes.1, shallow)

pub loop-r-preserved : goal.loop-r-preserved
loop-r-preserved c =
    let passes = row_read _ _ c.read_row.result c.read_row.ensures c.in-Some.is in
    let room : 10 * c.loop-r.r + 10 ≤ length c.args.doc.now =
    (row c.args.doc.now c.loop-r.r c.loop-r.most 0 passes.0).0 in
    let on = turn_on c.args.doc.now c.loop-r.r c.loop-r.most 2048 (omega arith) (omega arith) passes.0 in (
      omega (arith, room),
      ap (λ (l : ℕ). rows_sound (2048 - (c.loop-r.r + 1)) c.args.doc.now (c.loop-r.r + 1) (l + 1)) passes.1
          ∙ on ∙ c.loop-r.invariant.1,
    )

pub overflow_mul-end : goal.overflow_mul-end
overflow_mul-end c =
    omega arith

pub returns-then-doc-end : goal.returns-then-doc-end
unfolding counted
returns-then-doc-end c =
    let end : c.loop-r.r ≡ 2048 = omega arith in
    rw end at (turn_end c.args.doc.now c.loop-r.r c.loop-r.most 2048 (omega arith) ∙ c.loop-r.invariant.1)

pub returns-else-doc-end : goal.returns-else-doc-end
unfolding counted
returns-else-doc-end c =
    let end : c.loop-r.r ≡ 2048 = omega arith in
    rw c.unsound-else-doc-end.ensures
    (rw end at
    (turn_over c.args.doc.now c.loop-r.r c.loop-r.most 2048 (omega arith) (omega arith) ∙ c.loop-r.invariant.1))
