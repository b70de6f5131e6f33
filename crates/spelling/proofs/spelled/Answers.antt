-- `spelling::spelled` meets its contract.
use mathlib.Core.Path.{refl}
use Rattle.numerals.specs.Answers.{read_place}
use Rattle.parsing.specs.Reader.{give}
use Rattle.spelling.specs.Answers.{value_told}
use Rattle.spelling.proofs.Answering.{passed, stopped, on, off, value_up, word_reads}
use Rattle.spelling.proofs.spelled.Goals as goal

pub returns-in_err-next : goal.returns-in_err-next
returns-in_err-next g c =
    value_up _ c.from_residual.ensures.1
    (off (λ done. give c.args.what)
    (stopped (word_reads _ _ _ _ (λ i. (c.type_inv.rest i).fits) c.word.ensures) c.in_err-next.was))

pub returns : goal.returns
unfolding value_told read_place
returns g c =
    let done = passed (word_reads _ _ _ _ (λ i. (c.type_inv.rest i).fits) c.word.ensures) c.in_ok-next.was in
    on (λ done. give c.args.what) done (record { means = refl; inside = done.inside })
