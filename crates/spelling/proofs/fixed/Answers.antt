-- `spelling::fixed` meets its contract.
use Rattle.spelling.specs.Answers.{kind_is}
use Rattle.parsing.specs.Reader.{letters}
use Rattle.spelling.proofs.Answering.{passed, stopped, entry_reads, on, off, fixed_up, word_reads}
use Rattle.spelling.proofs.fixed.Goals as goal

pub returns-in_err-next : goal.returns-in_err-next
returns-in_err-next c =
    let a = c.args in
    fixed_up _ c.from_residual.ensures.1
    (entry_reads (kind_is a.before) (letters a.rest.now) _
    (off (λ done. letters a.rest.now) (stopped c.enter.ensures c.in_err-next.was)))

pub word-requires : goal.word-requires
word-requires c =
    (passed c.enter.ensures c.in_ok-next.was).inside

pub returns : goal.returns
returns c =
    let a = c.args in
    entry_reads (kind_is a.before) (letters a.rest.now) _
    (on (λ done. letters a.rest.now) (passed c.enter.ensures c.in_ok-next.was)
    (word_reads _ _ _ _ (λ i. (c.type_inv.rest i).fits) c.word.ensures))
