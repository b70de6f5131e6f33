-- `numerals::number` meets its contract: stuck where no digit is, else what the digits give.
use mathlib.Core.Path.{sym, ◌∙◌}
use native.Mathlib.Omega.{arith}
use Rattle.numerals.specs.Answers.{told_numeral, read_place}
use Rattle.numerals.proofs.Turns.{number_on, number_off}
use Rattle.numerals.proofs.number.Goals as goal

pub returns-then-not-is_digit : goal.returns-then-not-is_digit
unfolding told_numeral read_place
returns-then-not-is_digit c = (
  sym
      (number_off _ _ _ c.byte.ensures _
      (sym c.is_digit.ensures ∙ c.if-not-is_digit.true)),
  record { onward = omega arith; inside = omega arith },
)

pub returns : goal.returns
returns c = (
  c.digits_from.ensures.0
      ∙ sym
      (number_on _ _ _ c.byte.ensures _
      (sym c.is_digit.ensures ∙ c.if-not-is_digit.false)),
  c.digits_from.ensures.1,
)
