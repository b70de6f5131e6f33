-- `members::run` meets its contract. The invariant: the rows before row i hold the cell, and what is left
-- gives what the whole gives.
use Prim.Native.Nat.{◌<◌}
use mathlib.Core.Path.{◌≡◌, sym, ap, ◌∙◌}
use native.Mathlib.Omega.{arith}
use native.Mathlib.Nat.{zero-add}
use lib.ListN.{length}
use mir.Val.{to_z, of_z}
use mir.Syntax.{w64}
use Rattle.cells.proofs.Bits.{read_back}
use Rattle.cells.specs.Cell.{same}
use Rattle.meaning.specs.Operators.{column}
use Rattle.tables.specs.Layout.{table_at}
use Rattle.members.specs.Grouped.{in_front, leading}
use Rattle.tables.proofs.Reading.{length_table}
use Rattle.members.proofs.Parts.{leading_more, leading_stops, leading_ends}
use Rattle.members.proofs.run.Goals as goal

pub loop-i-init : goal.loop-i-init
loop-i-init c =
    let front : to_z w64 (of_z w64 c.cell_at-x.result) ≡ in_front (table_at c.args.work.now c.args.s) c.args.c =
    read_back w64 c.cell_at-x.type_inv ∙ c.cell_at-x.ensures in
    let xs = column (table_at c.args.work.now c.args.s) c.args.c in
    zero-add _ ∙ ap (λ x. leading (same x) xs) front

pub returns-then-not-holds : goal.returns-then-not-holds
returns-then-not-holds c =
    let here : c.loop-i.i < length (table_at c.args.work.now c.args.s) =
    omega (arith, length_table c.args.work.now c.args.s, c.loop-i-test.true) in (
      omega arith,
      leading_stops _ _ _ _ _ here (sym c.holds.ensures ∙ c.if-not-holds.true) c.loop-i.invariant,
    )

pub loop-i-preserved : goal.loop-i-preserved
loop-i-preserved c =
    let here : c.loop-i.i < length (table_at c.args.work.now c.args.s) =
    omega (arith, length_table c.args.work.now c.args.s, c.loop-i-test.true) in
    leading_more _ _ _ _ _ here (sym c.holds.ensures ∙ c.if-not-holds.false) c.loop-i.invariant

pub returns : goal.returns
returns c =
    let g = c.args in
    let end : c.loop-i.i ≡ g.s.rows = omega arith in
    (omega arith, sym end ∙ leading_ends _ _ _ _ _ (omega (arith, length_table g.work.now g.s)) c.loop-i.invariant)
