-- `next_words::next` meets its contract.
use Rattle.spelling.specs.Answers.{kind_is, next_word}
use Rattle.spelling.proofs.Answering.{passed, stopped, entry_reads, on, off, value_up}
use Rattle.next_words.proofs.next.Goals as goal

pub next_word-requires : goal.next_word-requires
next_word-requires c =
    (passed c.enter.ensures c.in_ok-from.was).inside

pub returns : goal.returns
returns c =
    let a = c.args in
    entry_reads (kind_is a.before) (next_word a.ends a.compared) _
    (on (λ done. next_word a.ends a.compared) (passed c.enter.ensures c.in_ok-from.was)
    c.next_word.ensures)

pub returns-in_err-from : goal.returns-in_err-from
returns-in_err-from c =
    let a = c.args in
    value_up _ c.from_residual.ensures.1
    (entry_reads (kind_is a.before) (next_word a.ends a.compared) _
    (off (λ done. next_word a.ends a.compared) (stopped c.enter.ensures c.in_err-from.was)))
