-- `operands::number` meets its contract.
use native.Mathlib.Omega.{arith}
use Rattle.grammar.specs.Records.{record_ql}
use Rattle.grammar.specs.Words.{word}
use Rattle.parsing.specs.Reader.{operand}
use Rattle.spelling.specs.declared.Before.TheVariants.{Word}
use Rattle.spelling.proofs.Answering.{is_value, no_value, number_reads}
use Rattle.operands.specs.Single.{number_bits}
use Rattle.operands.proofs.Bytes.{numeral_few}
use Rattle.operands.proofs.Follows.{operand_read, part_up, past_then, off_then}
use Rattle.operands.proofs.number.Goals as goal

pub returns-in_err-n : goal.returns-in_err-n
returns-in_err-n c =
    let a = c.args in
    part_up _ _ c.from_residual.ensures.1
    (off_then (λ n. operand (record_ql (number_bits a.minus n)) word)
    (no_value (number_reads _ _ a.most _ c.number.ensures) c.in_err-n.was))

pub add_number-to-requires : goal.add_number-to-requires
add_number-to-requires c =
    let few = numeral_few _ _ c.args.most _ _ c.number.ensures c.in_ok-n.was in
    (c.requires.1, c.requires.2, omega arith)

pub returns : goal.returns
returns c =
    let a = c.args in
    let done = is_value (number_reads _ _ a.most _ c.number.ensures) c.in_ok-n.was in
    operand_read Word _ (past_then (λ n. operand (record_ql (number_bits a.minus n)) word) done) done.inside
    c.add_number-to.ensures
