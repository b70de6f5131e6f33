-- `operands::root_open` meets its contract.
use Rattle.spelling.proofs.Answering.{passed, stopped}
use Rattle.operands.specs.Single.{root_number}
use Rattle.operands.proofs.Follows.{part_by, part_up, past_then, off_then}
use Rattle.operands.proofs.root_open.Goals as goal

pub returns-in_err-next : goal.returns-in_err-next
returns-in_err-next c =
    part_up _ _ c.from_residual.ensures.1
    (off_then (λ opened. root_number) (stopped c.fixed.ensures c.in_err-next.was))

pub root_number-requires : goal.root_number-requires
root_number-requires c =
    ((passed c.fixed.ensures c.in_ok-next.was).inside, c.requires.1, c.requires.2)

pub returns : goal.returns
returns c =
    part_by _ (past_then (λ opened. root_number) (passed c.fixed.ensures c.in_ok-next.was)) c.root_number.ensures
