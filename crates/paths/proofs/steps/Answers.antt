-- `paths::steps` meets its contract.
use mathlib.Core.Path.{refl, ◌∙◌}
use mathlib.Core.List.{[]}
use native.Mathlib.Omega.{arith}
use lib.ListN.{drop}
use Rattle.parsing.specs.Reader.{more_steps, readers}
use Rattle.spelling.proofs.Answering.{handed_up}
use Rattle.operands.specs.Single.{one_step}
use Rattle.operands.proofs.Follows.{past_part, no_part, goes_then, stuck_then, halts_by}
use Rattle.operands.proofs.Stepping.{run_start, run_ends, run_stuck, run_more, steps_then}
use Rattle.operands.proofs.Stepping.{steps_off, steps_on, steps_zero, steps_suc}
use Rattle.paths.proofs.steps.Goals as goal

pub loop-ends-init : goal.loop-ends-init
loop-ends-init c =
    let a = c.args in
    record {
      inside = c.requires.0;
      long = c.requires.1;
      within = c.requires.2;
      behind = c.requires.3;
      grows = omega arith;
      runs = λ ys. run_start
          (λ zs. more_steps (readers a.left) a.ends a.compared zs a.part.behind (drop a.part.next a.text.now));
    }

pub one_step-requires : goal.one_step-requires
one_step-requires c =
    let i = c.loop-ends.invariant in
    (i.inside, i.long, i.within, i.behind)

pub returns-in_err-next : goal.returns-in_err-next
returns-in_err-next c =
    λ ys.
    let l = c.loop-ends in
    let a = c.args in
    run_stuck (l.invariant.runs ys) _ _ (handed_up _ c.from_residual.ensures.1)
    (λ zs.
    halts_by (steps_on (readers l.left) a.ends a.compared zs l.part.behind _ (omega arith))
    (stuck_then (λ w. (readers l.left).steps a.ends a.compared w.made w.next)
    (no_part (c.one_step.ensures zs) c.in_err-next.was)))

pub returns-then-left-eq0 : goal.returns-then-left-eq0
returns-then-left-eq0 c =
    λ ys.
    let l = c.loop-ends in
    let a = c.args in
    run_stuck (l.invariant.runs ys) _ _ refl
    (λ zs.
    let one = past_part (c.one_step.ensures zs) c.in_ok-next.was in
    record {
      means =
          steps_on (readers l.left) a.ends a.compared zs l.part.behind _ (omega arith)
          ∙ goes_then (λ w. (readers l.left).steps a.ends a.compared w.made w.next) one
          ∙ steps_zero a.ends a.compared _ _ _ l.left c.if-left-eq0.true;
      inside = one.inside;
    })

pub loop-ends-preserved : goal.loop-ends-preserved
loop-ends-preserved c =
    let l = c.loop-ends in
    let a = c.args in
    let first = past_part (c.one_step.ensures []) c.in_ok-next.was in
    record {
      inside = first.inside;
      long = omega (arith, c.one_step.auto.query, l.invariant.long);
      within = first.within;
      behind = omega (arith, first.grows, l.invariant.behind);
      grows = omega (arith, first.grows, l.invariant.grows);
      runs = λ ys.
          run_more (l.invariant.runs ys) (λ zs. one_step a.ends a.compared zs (drop l.part.next a.text.now)) _
          (λ zs. past_part (c.one_step.ensures zs) c.in_ok-next.was)
          (λ zs ws e.
          steps_on (readers l.left) a.ends a.compared zs l.part.behind _ (omega arith)
          ∙ steps_then (readers l.left) a.ends a.compared _ _ e
          ∙ steps_suc a.ends a.compared ws _ _ l.left c.if-left-eq0.false);
    }

pub returns : goal.returns
returns c =
    λ ys.
    let l = c.loop-ends in
    let a = c.args in
    run_ends (l.invariant.runs ys) l.part.behind
    (λ zs. steps_off (readers l.left) a.ends a.compared zs l.part.behind _ (λ e. omega arith))
    l.invariant.inside
    l.invariant.grows
    l.invariant.within
