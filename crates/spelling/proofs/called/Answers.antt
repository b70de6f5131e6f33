-- `spelling::called` meets its contract.
use Rattle.parsing.specs.Reader.{brackets}
use Rattle.spelling.proofs.Answering.{passed, stopped, on, off, fixed_up, word_reads}
use Rattle.spelling.proofs.called.Goals as goal

pub returns-in_err-next : goal.returns-in_err-next
returns-in_err-next c =
    fixed_up _ c.from_residual.ensures.1
    (off (λ done. brackets tt)
    (stopped (word_reads _ _ _ _ (λ i. (c.type_inv.rest i).fits) c.word.ensures) c.in_err-next.was))

pub brackets-requires : goal.brackets-requires
brackets-requires c =
    (passed (word_reads _ _ _ _ (λ i. (c.type_inv.rest i).fits) c.word.ensures) c.in_ok-next.was).inside

pub returns : goal.returns
returns c =
    on (λ done. brackets tt)
    (passed (word_reads _ _ _ _ (λ i. (c.type_inv.rest i).fits) c.word.ensures) c.in_ok-next.was)
    c.brackets.ensures
