-- `step_words::step_test` meets its contract.
use mathlib.Core.Path.{refl}
use Rattle.numerals.specs.Answers.{read_place}
use Rattle.spelling.specs.Answers.{value_told}
use Rattle.parsing.specs.Reader.{give, read_test}
use Rattle.spelling.proofs.Answering.{is_value, no_value, on, off, symbol_reads, value_up}
use Rattle.step_words.proofs.step_test.Goals as goal

pub returns : goal.returns
unfolding value_told read_place
returns c =
    let a = c.args in
    let done = is_value c.test.ensures c.in_ok-test.was in
    on (λ p. give (record { axis = a.axis; test = p }))
    (symbol_reads _ read_test a.at c.spaces.result c.spaces.ensures.0 done)
    (record { means = refl; inside = done.inside })

pub returns-in_err-test : goal.returns-in_err-test
returns-in_err-test c =
    let a = c.args in
    value_up _ c.from_residual.ensures.1
    (off (λ p. give (record { axis = a.axis; test = p }))
    (symbol_reads _ read_test a.at c.spaces.result c.spaces.ensures.0
    (no_value c.test.ensures c.in_err-test.was)))
