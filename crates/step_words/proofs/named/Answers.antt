-- `step_words::named` meets its contract.
use mathlib.Core.Path.{refl}
use Rattle.numerals.specs.Answers.{read_place}
use Rattle.spelling.specs.Answers.{value_told}
use Rattle.parsing.specs.Reader.{give}
use Rattle.codes.specs.declared.Test.TheVariants.{Named}
use Rattle.spelling.proofs.Answering.{is_value, no_value, on, off, name_reads, value_up}
use Rattle.step_words.proofs.named.Goals as goal

pub returns : goal.returns
unfolding value_told read_place
returns c =
    let done = is_value (name_reads _ _ _ c.name_number.ensures)
    c.in_ok-n.was in
    on (λ n. give (Named n)) done (record { means = refl; inside = done.inside })

pub returns-in_err-n : goal.returns-in_err-n
returns-in_err-n c =
    value_up _ c.from_residual.ensures.1
    (off (λ n. give (Named n))
    (no_value (name_reads _ _ _ c.name_number.ensures) c.in_err-n.was))
