-- `root` meets its contract. The invariant of its loop: of the roots from r on, the one that `left` others stand before
-- is the one that was asked for.
use Prim.Native.Nat.{◌-◌}
use mathlib.Core.Path.{sym, ◌∙◌}
use Rattle.doc_rows.specs.Answers.{found}
use Rattle.doc_rows.proofs.Turns.{root_start, root_end, root_skip, root_here, root_next}
use Rattle.doc_rows.proofs.root.Goals.{then-level-eq0+else-left-eq0, else-level-eq0}
use Rattle.doc_rows.proofs.root.Goals as goal

pub loop-r-init : goal.loop-r-init
loop-r-init c =
    root_start c.args.doc.now c.args.rows (c.args.k - 1)

pub returns-then-left-eq0 : goal.returns-then-left-eq0
unfolding found
returns-then-left-eq0 c =
    let here = root_here c.args.doc.now c.args.rows c.loop-r.r c.level.ensures.0 c.loop-r.left in
    sym (here c.loop-r-test.true c.if-level-eq0.true c.if-left-eq0.true) ∙ c.loop-r.invariant

pub loop-r-preserved : goal.loop-r-preserved
loop-r-preserved c =
    let here = c.loop-r-test.true in
    let level = c.level.ensures.0 in
    elim c.if-level-eq0.branch [
      | then-level-eq0+else-left-eq0 w ↦
          rw w.left-is
          (sym (root_next c.args.doc.now c.args.rows c.loop-r.r level c.loop-r.left here w.if-level-eq0.true
          w.if-left-eq0.false) ∙ c.loop-r.invariant)
      | else-level-eq0 w ↦
          rw w.left-is
          (sym (root_skip c.args.doc.now c.args.rows c.loop-r.r level c.loop-r.left here w.if-level-eq0.false)
          ∙ c.loop-r.invariant)
    ]

pub returns : goal.returns
unfolding found
returns c =
    sym (root_end c.args.doc.now c.args.rows c.loop-r.r c.loop-r.left c.loop-r-test.false) ∙ c.loop-r.invariant
