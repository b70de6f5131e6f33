-- `paths::one_step` meets its contract.
use mathlib.Core.Path.{sym, ap, ◌∙◌}
use Rattle.spelling.proofs.Answering.{is_value, no_value, handed_up}
use Rattle.operands.specs.Going.{counted_read}
use Rattle.operands.proofs.Follows.{part_up, off_then}
use Rattle.operands.proofs.Stepping.{step_follows}
use Rattle.paths.proofs.one_step.Goals as goal

pub returns-in_err-step : goal.returns-in_err-step
returns-in_err-step c =
    λ ys. part_up _ _ c.from_residual.ensures.1
    (off_then _ (no_value c.step.ensures c.in_err-step.was))

pub next-requires : goal.next-requires
next-requires c = (is_value c.step.ensures c.in_ok-step.was).inside

pub returns-in_err-found : goal.returns-in_err-found
returns-in_err-found c =
    λ ys.
    let a = c.args in
    step_follows _ _ _ _ _ _ a.at _ a.ends a.compared _ _ _ ys _ _
    (is_value c.step.ensures c.in_ok-step.was) c.insert_step-to.ensures c.test_kind.ensures
    c.next.ensures
    (handed_up _ c.from_residual-in_err-found.ensures.1
    ∙ sym (ap (λ n. counted_read n c.insert_step-to.result) c.in_err-found.was))

pub returns : goal.returns
returns c =
    λ ys.
    let a = c.args in
    step_follows _ _ _ _ _ _ a.at _ a.ends a.compared _ _ _ ys _ _
    (is_value c.step.ensures c.in_ok-step.was) c.insert_step-to.ensures c.test_kind.ensures
    c.next.ensures (sym (ap (λ n. counted_read n c.insert_step-to.result) c.in_ok-found.was))
