-- `step_words::step_rest` meets its contract.
use Rattle.spelling.specs.Answers.{step_test}
use Rattle.spelling.proofs.Answering.{passed, stopped, on, off, value_up}
use Rattle.step_words.proofs.step_rest.Goals as goal

pub step_test-requires : goal.step_test-requires
step_test-requires c =
    (passed c.fixed.ensures c.in_ok-next.was).inside

pub returns : goal.returns
returns c =
    let a = c.args in
    on (λ done. step_test a.axis) (passed c.fixed.ensures c.in_ok-next.was)
    c.step_test.ensures

pub returns-in_err-next : goal.returns-in_err-next
returns-in_err-next c =
    let a = c.args in
    value_up _ c.from_residual.ensures.1
    (off (λ done. step_test a.axis) (stopped c.fixed.ensures c.in_err-next.was))
