-- `operands::root` meets its contract.
use mathlib.Core.Path.{refl}
use mathlib.Core.List.{[], ◌∷◌}
use Rattle.laws.specs.Lists.{all}
use Rattle.parsing.specs.Reader.{read_root}
use Rattle.spelling.proofs.Bridging.{small}
use Rattle.spelling.proofs.Answering.{passed, stopped, word_reads}
use Rattle.operands.proofs.Follows.{part_by, part_up, past_then, off_then}
use Rattle.operands.proofs.root.Goals as goal

pub returns-in_err-next : goal.returns-in_err-next
unfolding all
returns-in_err-next c =
    let read = word_reads _ (111 ∷ 111 ∷ 116 ∷ []) _ _ (small (111 ∷ 111 ∷ 116 ∷ []) refl) c.word.ensures in
    part_up _ _ c.from_residual.ensures.1 (off_then (λ done. read_root) (stopped read c.in_err-next.was))

pub root_open-requires : goal.root_open-requires
unfolding all
root_open-requires c =
    let read = word_reads _ (111 ∷ 111 ∷ 116 ∷ []) _ _ (small (111 ∷ 111 ∷ 116 ∷ []) refl) c.word.ensures in
    ((passed read c.in_ok-next.was).inside, c.requires.1, c.requires.2)

pub returns : goal.returns
unfolding all
returns c =
    let read = word_reads _ (111 ∷ 111 ∷ 116 ∷ []) _ _ (small (111 ∷ 111 ∷ 116 ∷ []) refl) c.word.ensures in
    part_by _ (past_then (λ done. read_root) (passed read c.in_ok-next.was)) c.root_open.ensures
