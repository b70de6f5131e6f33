-- `operands::root_number` meets its contract.
use Rattle.parsing.specs.Reader.{number}
use Rattle.spelling.proofs.Answering.{is_value, no_value, number_reads, symbol_reads}
use Rattle.operands.specs.Single.{root_close}
use Rattle.operands.proofs.Bytes.{numeral_few}
use Rattle.operands.proofs.Follows.{part_by, part_up, past_then, off_then}
use Rattle.operands.proofs.root_number.Goals as goal

pub returns-in_err-k : goal.returns-in_err-k
returns-in_err-k c =
    part_up _ _ c.from_residual.ensures.1
    (off_then root_close
    (symbol_reads _ (number 255) c.args.at c.spaces.result c.spaces.ensures.0
    (no_value (number_reads _ _ 255 _ c.number.ensures) c.in_err-k.was)))

pub root_close-requires : goal.root_close-requires
root_close-requires c =
    let known = c.in_ok-k.was in
    let few = numeral_few _ _ 255 _ _ c.number.ensures known in
    ((is_value (number_reads _ _ 255 _ c.number.ensures) known).inside, c.requires.1, c.requires.2, few)

pub returns : goal.returns
returns c =
    part_by _
    (past_then root_close
    (symbol_reads _ (number 255) c.args.at c.spaces.result c.spaces.ensures.0
    (is_value (number_reads _ _ 255 _ c.number.ensures) c.in_ok-k.was)))
    c.root_close.ensures
