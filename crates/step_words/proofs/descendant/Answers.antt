-- `step_words::descendant` meets its contract.
use mathlib.Core.Path.{refl}
use mathlib.Core.List.{[], ◌∷◌}
use Rattle.laws.specs.Lists.{all}
use Rattle.spelling.specs.Answers.{or_self}
use Rattle.spelling.proofs.Bridging.{small}
use Rattle.spelling.proofs.Answering.{passed, stopped, on, off, word_reads, value_up}
use Rattle.step_words.proofs.descendant.Goals as goal

pub or_self-requires : goal.or_self-requires
unfolding all
or_self-requires c =
    (passed (word_reads _ (101 ∷ 115 ∷ 99 ∷ 101 ∷ 110 ∷ 100 ∷ 97 ∷ 110 ∷ 116 ∷ []) _ _
    (small (101 ∷ 115 ∷ 99 ∷ 101 ∷ 110 ∷ 100 ∷ 97 ∷ 110 ∷ 116 ∷ []) refl)
    c.word.ensures) c.in_ok-next.was
    ).inside

pub returns : goal.returns
unfolding all
returns c =
    on (λ done. or_self)
    (passed (word_reads _ (101 ∷ 115 ∷ 99 ∷ 101 ∷ 110 ∷ 100 ∷ 97 ∷ 110 ∷ 116 ∷ []) _ _
    (small (101 ∷ 115 ∷ 99 ∷ 101 ∷ 110 ∷ 100 ∷ 97 ∷ 110 ∷ 116 ∷ []) refl)
    c.word.ensures)
    c.in_ok-next.was)
    c.or_self.ensures

pub returns-in_err-next : goal.returns-in_err-next
unfolding all
returns-in_err-next c =
    value_up _ c.from_residual.ensures.1
    (off (λ done. or_self)
    (stopped (word_reads _ (101 ∷ 115 ∷ 99 ∷ 101 ∷ 110 ∷ 100 ∷ 97 ∷ 110 ∷ 116 ∷ []) _ _
    (small (101 ∷ 115 ∷ 99 ∷ 101 ∷ 110 ∷ 100 ∷ 97 ∷ 110 ∷ 116 ∷ []) refl) c.word.ensures)
    c.in_err-next.was))
