-- `mark` meets its contract. The invariant: the cells so far are nodes, and exactly their ranks are marked.
use Prim.Native.Nat.{◌≤◌}
use mathlib.Core.Path.{◌≡◌, refl, sym, ap, subst, ◌∙◌}
use native.Mathlib.Omega.{arith}
use lib.IntN.{ℤ}
use lib.ListN.{length}
use mir.Facts.{to_z-of_z}
use mir.Syntax.{w64}
use lib.Seq.{take-length}
use Rattle.std.specs.Prelude.{Ok}
use Rattle.std.proofs.lemmas.Result.{err_from_is_err_and}
use Rattle.meaning.specs.World.{rank_of}
use Rattle.nodesets.specs.Nodes.{FromOne}
use Rattle.nodesets.proofs.Nodes.{marked_none, marked_more, marked_fails}
use Rattle.nodesets.proofs.mark.Goals as goal

pub loop-cell-init : goal.loop-cell-init
loop-cell-init c =
    (refl, λ d e. marked_none d _ (rw e c.clear.ensures))

pub returns-in_err-mark_one : goal.returns-in_err-mark_one
returns-in_err-mark_one c =
    let p = err_from_is_err_and c.from_residual.result c.from_residual.ensures.1 in
    let cell-is = to_z-of_z {w = w64} (record { sfits = c.mark_one-arg-1.given }) in
    λ d e.
    rw p.1
    (marked_fails d _ _ c.loop-cell-test.true _ (c.loop-cell.invariant.1 d e)
    (ap (rank_of d) (sym cell-is) ∙ (c.in_err-mark_one.ensures d e).0))

pub loop-cell-preserved : goal.loop-cell-preserved
loop-cell-preserved c =
    let long : length c.loop-cell.marks ≡ length c.args.marks.now = c.loop-cell.invariant.0 ∙ c.clear.auto.marks in
    let wide : c.args.rows ≤ length c.loop-cell.marks = omega (arith, long, c.requires) in
    let cell-is = to_z-of_z {w = w64} (record { sfits = c.mark_one-arg-1.given }) in (
      c.mark_one.auto.marks ∙ c.loop-cell.invariant.0,
      λ d e.
          marked_more d _ _ c.loop-cell-test.true _ (c.loop-cell.invariant.1 d e) _ (rw e wide)
          (subst (λ (z : ℤ). FromOne d z (Ok tt) c.loop-cell.marks c.mark_one.new.marks) cell-is
          (c.in_ok-mark_one.ensures d e)),
    )

pub returns : goal.returns
returns c =
    let end : c.loop-cell.cell-index ≡ length c.args.cells.now = omega arith in
    λ d e. rw (end, take-length _) at (c.loop-cell.invariant.1 d e)
