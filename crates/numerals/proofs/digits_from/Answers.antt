-- `numerals::digits_from` meets its contract.
use mathlib.Core.Path.{◌≡◌, sym, ◌∙◌}
use mathlib.Core.Bool.{true}
use native.Mathlib.Omega.{arith}
use Rattle.laws.specs.Characters.{is_digit}
use Rattle.laws.proofs.Characters.{digit_few}
use Rattle.numerals.specs.Answers.{told_numeral, read_place}
use Rattle.numerals.proofs.Turns.{digit_on, digit_past, digit_off, digit_none}
use Rattle.numerals.proofs.digits_from.Goals as goal

pub returns-then-not-is_digit : goal.returns-then-not-is_digit
unfolding told_numeral read_place
returns-then-not-is_digit c = (
  sym (digit_off _ _ _ c.byte-b.ensures _ _ (sym c.is_digit.ensures ∙ c.if-not-is_digit.true))
      ∙ c.loop-i.invariant.1,
  record { onward = omega arith; inside = omega arith },
)

pub overflow_sub-next : goal.overflow_sub-next
overflow_sub-next c =
    let is_one : is_digit c.byte-b.result ≡ true = sym c.is_digit.ensures ∙ c.if-not-is_digit.false in
    omega (arith, digit_few _ is_one)

pub returns-then-most-next : goal.returns-then-most-next
unfolding told_numeral read_place
returns-then-most-next c =
    let is_one : is_digit c.byte-b.result ≡ true = sym c.is_digit.ensures ∙ c.if-not-is_digit.false in (
      sym (digit_past _ _ _ c.byte-b.ensures _ _ is_one (omega arith)) ∙ c.loop-i.invariant.1,
      record { onward = omega arith; inside = omega arith },
    )

pub loop-i-preserved : goal.loop-i-preserved
loop-i-preserved c =
    let is_one : is_digit c.byte-b.result ≡ true = sym c.is_digit.ensures ∙ c.if-not-is_digit.false in (
      omega arith,
      sym (digit_on _ _ _ c.byte-b.ensures _ _ is_one (omega arith)) ∙ c.loop-i.invariant.1,
    )

pub returns : goal.returns
unfolding told_numeral read_place
returns c = (
  sym (digit_none c.args.text.now c.loop-i.i (omega arith) _ _) ∙ c.loop-i.invariant.1,
  record { onward = omega arith; inside = omega arith },
)
