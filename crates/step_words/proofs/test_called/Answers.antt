-- `step_words::test_called` meets its contract.
use mathlib.Core.Path.{refl, ◌∙◌}
use Rattle.numerals.specs.Answers.{read_place}
use Rattle.spelling.specs.Answers.{value_told}
use Rattle.parsing.specs.Reader.{give}
use Rattle.spelling.proofs.Answering.{passed, stopped, on, off, called_as, value_up}
use Rattle.step_words.proofs.test_called.Goals as goal

pub returns : goal.returns
unfolding value_told read_place
returns c =
    let a = c.args in
    let done = passed c.called.ensures c.in_ok-next.was in
    let k = on (λ done. give a.test) done (record { means = refl; inside = done.inside }) in
    record { means = called_as a.test a.rest.now _ ∙ k.means; inside = k.inside }

pub returns-in_err-next : goal.returns-in_err-next
returns-in_err-next c =
    let a = c.args in
    let k = off (λ done. give a.test) (stopped c.called.ensures c.in_err-next.was) in
    value_up _ c.from_residual.ensures.1
    (record { means = called_as a.test a.rest.now _ ∙ k.means; inside = k.inside })
