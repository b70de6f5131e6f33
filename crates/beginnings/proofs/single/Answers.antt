-- `beginnings::single` meets its contract.
use Rattle.spelling.proofs.Answering.{passed, stopped}
use Rattle.operands.proofs.Follows.{halts_by, off_then}
use Rattle.beginnings.specs.Begun.{single_word}
use Rattle.beginnings.proofs.Begun.{begins_by, begins_on, begins_up, single_at_lem}
use Rattle.beginnings.proofs.single.Goals as goal

pub returns-in_err-from : goal.returns-in_err-from
returns-in_err-from c =
    λ rd d e.
    begins_up rd d e _ c.from_residual.ensures.1
    (halts_by (single_at_lem rd d e _ _)
    (off_then (λ done. single_word rd d e) (stopped c.enter.ensures c.in_err-from.was)))

pub single_word-requires : goal.single_word-requires
single_word-requires c =
    ((passed c.enter.ensures c.in_ok-from.was).inside, c.requires.1, c.requires.2)

pub returns : goal.returns
returns c =
    λ rd d e.
    begins_by _ (single_at_lem rd d e _ _)
    (begins_on (λ done. single_word rd d e) _ (passed c.enter.ensures c.in_ok-from.was)
    (c.single_word.ensures rd d e))
