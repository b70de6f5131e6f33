-- `read_row` tests that the row is there, then its mark, then its own fields.
use Prim.Native.Nat.{ℕ, ◌+◌, ◌*◌, ◌≤◌}
use native.Mathlib.Omega.{arith}
use mathlib.Core.Bool.{Bool, true}
use mathlib.Core.List.{List}
use mathlib.Core.Path.{◌≡◌, sym, ap, ◌∙◌}
use lib.ListN.{length}
use borrow.Author.Tests.{leb-true}
use Rattle.cells.specs.Bytes.{fits}
use Rattle.laws.specs.Attempt.{provided, gives}
use Rattle.doc_rows.specs.Fields.{level_at}
use Rattle.sound_rows.specs.Answers.{level_of}
use Rattle.sound_rows.proofs.Tests.{row_cut, row_mark, row_own, row_none}
use Rattle.sound_rows.proofs.read_row.Goals as goal

pub returns-then-not-fits : goal.returns-then-not-fits
unfolding level_of
returns-then-not-fits c =
    let bytes : List ℕ = c.args.doc.now in
    let rank : ℕ = c.args.r.0 in
    row_none _
    (row_cut bytes rank c.args.most (sym c.fits.ensures ∙ c.if-not-fits.true))

pub mark-mark-requires : goal.mark-mark-requires
unfolding fits
mark-mark-requires c =
    let bytes : List ℕ = c.args.doc.now in
    let rank : ℕ = c.args.r.0 in
    let whole : fits bytes (10 * rank) 10 ≡ true = sym c.fits.ensures ∙ c.if-not-fits.false in
    let room : 10 * rank + 10 ≤ length bytes = leb-true _ _ whole in
    omega (arith, room)

pub own_row-requires : goal.own_row-requires
unfolding fits
own_row-requires c =
    let bytes : List ℕ = c.args.doc.now in
    let rank : ℕ = c.args.r.0 in
    let whole : fits bytes (10 * rank) 10 ≡ true = sym c.fits.ensures ∙ c.if-not-fits.false in
    let room : 10 * rank + 10 ≤ length bytes = leb-true _ _ whole in
    omega (arith, room)

pub returns-in-17486 : goal.returns-in-17486
returns-in-17486 c =
    let bytes : List ℕ = c.args.doc.now in
    let rank : ℕ = c.args.r.0 in
    let whole : fits bytes (10 * rank) 10 ≡ true = sym c.fits.ensures ∙ c.if-not-fits.false in
    c.own_row.ensures
    ∙ ap (λ (b : Bool). provided b (gives (level_at bytes rank)))
    (row_own bytes rank c.args.most whole
    (sym c.mark-mark.ensures ∙ c.in-17486.is))

pub returns-in-0-to-17485 : goal.returns-in-0-to-17485
unfolding level_of
returns-in-0-to-17485 c =
    let bytes : List ℕ = c.args.doc.now in
    let rank : ℕ = c.args.r.0 in
    let whole : fits bytes (10 * rank) 10 ≡ true = sym c.fits.ensures ∙ c.if-not-fits.false in
    row_none _
    (row_mark bytes rank c.args.most whole
    (λ e. c.in-0-to-17485.in-0-to-17485-own.rest.1 (c.mark-mark.ensures ∙ e)))
