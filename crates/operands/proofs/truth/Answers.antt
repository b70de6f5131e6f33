-- `operands::truth` meets its contract.
use mathlib.Core.Path.{◌∙◌}
use Rattle.grammar.specs.Records.{record_qb}
use Rattle.parsing.specs.Reader.{give}
use Rattle.spelling.specs.declared.Before.TheVariants.{Symbol}
use Rattle.spelling.proofs.Answering.{passed, stopped, called_as}
use Rattle.operands.specs.Going.{operand_value}
use Rattle.operands.proofs.Follows.{operand_read, part_up, past_then, off_then, halts_by}
use Rattle.operands.proofs.truth.Goals as goal

pub returns-in_err-next : goal.returns-in_err-next
returns-in_err-next c =
    let a = c.args in
    let value = operand_value Symbol (record_qb a.value) in
    part_up _ _ c.from_residual.ensures.1
    (halts_by (called_as value a.rest.now _)
    (off_then (λ done. give value) (stopped c.called.ensures c.in_err-next.was)))

pub returns : goal.returns
returns c =
    let a = c.args in
    let value = operand_value Symbol (record_qb a.value) in
    let done = passed c.called.ensures c.in_ok-next.was in
    operand_read Symbol _ (called_as value a.rest.now _ ∙ past_then (λ done. give value) done) done.inside
    c.add_truth-to.ensures
