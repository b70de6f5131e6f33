-- `counting::count_rows` meets its contract. The invariant: n counts the rows of the group before row i, and
-- what is left gives what the whole gives.
use Prim.Native.Nat.{◌<◌}
use mathlib.Core.Path.{sym, ap, ◌∙◌}
use native.Mathlib.Omega.{arith}
use native.Mathlib.Nat.{zero-add}
use lib.ListN.{length}
use mir.Syntax.{w64}
use mir.Val.{to_z, of_z}
use Rattle.cells.proofs.Bits.{read_back}
use Rattle.meaning.specs.Operators.{group_of}
use Rattle.tables.specs.Layout.{table_at}
use Rattle.tables.proofs.Reading.{length_table}
use Rattle.members.proofs.Members.{counted_more, passed_by, counted_end}
use Rattle.counting.proofs.count_rows.Goals as goal
use Rattle.counting.proofs.count_rows.Goals.{then-holds, else-holds}

pub loop-i-init : goal.loop-i-init
loop-i-init c =
    let t = table_at c.args.work.now c.args.s in (
      omega arith,
      zero-add _
          ∙ ap (λ x. length (group_of t c.args.c x)) (read_back w64 c.cell_at-x.type_inv ∙ c.cell_at-x.ensures),
    )

pub loop-i-preserved : goal.loop-i-preserved
loop-i-preserved c =
    let g = c.args in
    let t = table_at g.work.now g.s in
    let more = c.loop-i.invariant.1 in
    let here : c.loop-i.i < length t = omega (arith, length_table g.work.now g.s, c.loop-i-test.true) in
    elim c.if-holds.branch [
      | then-holds w ↦
          let e = counted_more t g.c _ c.loop-i.i _ _ here (sym c.holds.ensures ∙ w.if-holds.true) more in
          (omega arith, omega (arith, e))
      | else-holds w ↦
          let e = passed_by t g.c _ c.loop-i.i _ _ here (sym c.holds.ensures ∙ w.if-holds.false) more in
          (omega arith, omega (arith, e))
    ]

pub returns : goal.returns
returns c =
    let g = c.args in (
      omega arith,
      counted_end (table_at g.work.now g.s) g.c (to_z w64 (of_z w64 c.cell_at-x.result))
          c.loop-i.i _ _
          (omega (arith, length_table g.work.now g.s)) c.loop-i.invariant.1,
    )
