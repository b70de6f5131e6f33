-- `numerals::canonical` meets its contract: any number where no zero stands in front; a zero alone; stuck at a digit
-- behind it.
use Prim.Native.Nat.{◌<◌}
use mathlib.Core.Path.{sym, ◌∙◌}
use native.Mathlib.Omega.{arith}
use lib.ListN.{length}
use Rattle.numerals.specs.Answers.{told_numeral, read_place}
use Rattle.numerals.proofs.Turns.{no_zero, zero_more, zero_alone}
use Rattle.numerals.proofs.canonical.Goals as goal

pub returns-then-byte-ne48 : goal.returns-then-byte-ne48
returns-then-byte-ne48 c = (
  c.number.ensures.0
      ∙ sym (no_zero _ _ _ c.byte.ensures _ (λ e. omega arith)),
  c.number.ensures.1,
)

pub overflow_add-next : goal.overflow_add-next
overflow_add-next c =
    let within : c.args.at < length c.args.text.now = (c.byte.ensures.there (omega arith)).0 in
    omega (arith, within)

pub returns-then-is_digit : goal.returns-then-is_digit
unfolding told_numeral read_place
returns-then-is_digit c =
    let within : c.args.at < length c.args.text.now = (c.byte.ensures.there (omega arith)).0 in
    let h = within in (
      sym
          (zero_more _ _ _ c.byte.ensures _ (omega arith) _ c.byte-2.ensures
          (sym c.is_digit.ensures ∙ c.if-is_digit.true)),
      record { onward = omega arith; inside = omega arith },
    )

pub returns : goal.returns
unfolding told_numeral read_place
returns c =
    let within : c.args.at < length c.args.text.now = (c.byte.ensures.there (omega arith)).0 in
    let h = within in (
      sym
          (zero_alone _ _ _ c.byte.ensures _ (omega arith) _ c.byte-2.ensures
          (sym c.is_digit.ensures ∙ c.if-is_digit.false)),
      record { onward = omega arith; inside = omega arith },
    )
