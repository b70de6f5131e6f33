-- `openings::opened` meets its contract.
use Rattle.parsing.specs.Reader.{read_word}
use Rattle.grammar.specs.Words.{word, open_sign}
use Rattle.spelling.proofs.Answering.{passed, stopped, on, off, fixed_up, word_reads}
use Rattle.openings.proofs.opened.Goals as goal

pub returns-in_err-next : goal.returns-in_err-next
returns-in_err-next c =
    fixed_up _ c.from_residual.ensures.1
    (off (λ done. read_word word open_sign)
    (stopped (word_reads _ _ _ _ (λ i. (c.type_inv.rest i).fits) c.word.ensures) c.in_err-next.was))

pub fixed-requires : goal.fixed-requires
fixed-requires c =
    (passed (word_reads _ _ _ _ (λ i. (c.type_inv.rest i).fits) c.word.ensures) c.in_ok-next.was).inside

pub returns : goal.returns
returns c =
    on (λ done. read_word word open_sign)
    (passed (word_reads _ _ _ _ (λ i. (c.type_inv.rest i).fits) c.word.ensures) c.in_ok-next.was)
    c.fixed.ensures
