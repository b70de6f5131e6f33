-- `stepping::mark_group` meets its contract, row by row.
use Prim.Native.Nat.{◌≤◌, ◌<◌}
use mathlib.Core.Path.{◌≡◌, refl, sym, ap, ◌∙◌}
use native.Mathlib.Omega.{arith}
use lib.ListN.{length}
use Rattle.meaning.specs.Operators.{Table, column, group_of}
use Rattle.tables.specs.Layout.{table_at}
use Rattle.tables.proofs.Reading.{length_table}
use Rattle.members.proofs.Members.{group_none}
use Rattle.std.proofs.lemmas.Result.{err_from_is_err_and}
use Rattle.stepping.proofs.Nodes.{marking_start, marking_more, marking_fails, marking_end}
use Rattle.stepping.proofs.mark_group.Goals as goal

pub loop-i-init : goal.loop-i-init
loop-i-init c =
    let t = table_at c.args.work.now c.args.s in (
      refl,
      λ d e.
          marking_start d _ _ _ (ap (λ x. column (group_of t 0 x) 1) (sym c.requires.iteration_value))
          (rw e c.clear.ensures),
    )

pub mark_row-requires : goal.mark_row-requires
mark_row-requires c =
    let long : length c.loop-i.marks ≡ length c.args.marks.now = c.loop-i.invariant.0 ∙ c.clear.auto.marks in
    (c.requires.inside.0, c.requires.inside.1, omega arith, omega (arith, long, c.requires.inside.3))

pub returns-in_err-mark_row : goal.returns-in_err-mark_row
returns-in_err-mark_row c =
    let here : c.loop-i.i < length (table_at c.args.work.now c.args.s) =
    omega (arith, length_table c.args.work.now c.args.s) in
    let p = err_from_is_err_and c.from_residual.result c.from_residual.ensures.1 in
    λ d e. rw p.1 (marking_fails d _ _ _ _ _ _ here (c.loop-i.invariant.1 d e) _ (c.in_err-mark_row.ensures d e))

pub loop-i-preserved : goal.loop-i-preserved
loop-i-preserved c =
    let long : length c.loop-i.marks ≡ length c.args.marks.now = c.loop-i.invariant.0 ∙ c.clear.auto.marks in
    let wide : c.args.rows ≤ length c.loop-i.marks = omega (arith, long, c.requires.inside.3) in
    let here : c.loop-i.i < length (table_at c.args.work.now c.args.s) =
    omega (arith, length_table c.args.work.now c.args.s) in (
      c.mark_row.auto.marks ∙ c.loop-i.invariant.0,
      λ d e. marking_more d _ _ _ _ _ _ here (c.loop-i.invariant.1 d e) (rw e wide) (c.in_ok-mark_row.ensures d e),
    )

pub returns : goal.returns
unfolding column
returns c =
    let t = table_at c.args.work.now c.args.s in
    let none =
    group_none t 0 c.args.iteration.0 c.loop-i.i
    (omega (arith, length_table c.args.work.now c.args.s)) in
    λ d e. marking_end d _ _ _ (ap (λ (u : Table). column u 1) none) (c.loop-i.invariant.1 d e)
