-- `operands::variable` meets its contract.
use borrow.Author.Rules.{rules}
use Rattle.grammar.specs.Records.{record_qv}
use Rattle.grammar.specs.Words.{name}
use Rattle.parsing.specs.Reader.{operand}
use Rattle.spelling.specs.declared.Before.TheVariants.{Name}
use Rattle.spelling.proofs.Answering.{is_value, no_value}
use Rattle.operands.proofs.Bytes.{variable_few}
use Rattle.operands.proofs.Follows.{operand_read, part_up, past_then, off_then}
use Rattle.operands.proofs.variable.Goals as goal

pub returns-in_err-v : goal.returns-in_err-v
returns-in_err-v c =
    part_up _ _ c.from_residual.ensures.1
    (off_then (λ v. operand (record_qv v) name) (no_value c.variable.ensures c.in_err-v.was))

pub add_variable-to-requires : goal.add_variable-to-requires
add_variable-to-requires c =
    let few = variable_few _ _ _ (is_value c.variable.ensures c.in_ok-v.was).means in
    search rules

pub returns : goal.returns
returns c =
    let done = is_value c.variable.ensures c.in_ok-v.was in
    operand_read Name (record_qv _) (past_then (λ v. operand (record_qv v) name) done) done.inside
    c.add_variable-to.ensures
