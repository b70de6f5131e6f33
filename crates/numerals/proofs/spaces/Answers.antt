-- `numerals::spaces` meets its contract.
use mathlib.Core.Path.{sym, ◌∙◌}
use native.Mathlib.Omega.{arith}
use Rattle.numerals.proofs.Turns.{space_on, space_off, space_none}
use Rattle.numerals.proofs.spaces.Goals as goal

pub returns-then-not-is_space : goal.returns-then-not-is_space
returns-then-not-is_space c = (
  sym (space_off _ _ _ c.byte.ensures (sym c.is_space.ensures ∙ c.if-not-is_space.true)) ∙ c.loop-i.invariant,
  record { onward = omega arith; inside = omega arith },
)

pub loop-i-preserved : goal.loop-i-preserved
loop-i-preserved c =
    sym (space_on _ _ _ c.byte.ensures (sym c.is_space.ensures ∙ c.if-not-is_space.false)).1 ∙ c.loop-i.invariant

pub returns : goal.returns
returns c = (
  sym (space_none c.args.text.now c.loop-i.i (omega arith)) ∙ c.loop-i.invariant,
  record { onward = omega arith; inside = omega arith },
)
