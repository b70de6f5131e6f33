-- `step_words::step` meets its contract.
use Rattle.spelling.specs.Answers.{step_rest}
use Rattle.parsing.specs.Reader.{read_axis}
use Rattle.spelling.proofs.Answering.{is_value, no_value, on, off, symbol_reads, value_up}
use Rattle.step_words.proofs.step.Goals as goal

pub step_rest-requires : goal.step_rest-requires
step_rest-requires c =
    (is_value c.axis.ensures c.in_ok-axis.was).inside

pub returns : goal.returns
returns c =
    let a = c.args in
    on step_rest
    (symbol_reads _ read_axis a.at c.spaces.result c.spaces.ensures.0
    (is_value c.axis.ensures c.in_ok-axis.was))
    c.step_rest.ensures

pub returns-in_err-axis : goal.returns-in_err-axis
returns-in_err-axis c =
    let a = c.args in
    value_up _ c.from_residual.ensures.1
    (off step_rest
    (symbol_reads _ read_axis a.at c.spaces.result c.spaces.ensures.0
    (no_value c.axis.ensures c.in_err-axis.was)))
