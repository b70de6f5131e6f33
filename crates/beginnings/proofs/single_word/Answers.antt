-- `beginnings::single_word` meets its contract.
use borrow.Author.Rules.{rules}
use native.Mathlib.Omega.{arith}
use mathlib.Core.Path.{refl}
use Rattle.parsing.specs.Reader.{rest}
use Rattle.laws.specs.Characters.{first}
use Rattle.spelling.proofs.Bridging.{looks_first, looks_there}
use Rattle.beginnings.specs.Begun.{single_word}
use Rattle.beginnings.proofs.Begun.{begins_left, begins_sides, single_other}
use Rattle.beginnings.proofs.single_word.Goals as goal

pub for_or_false-requires : goal.for_or_false-requires
for_or_false-requires c = (
  (looks_there _ _ _ c.byte.ensures 102 c.in-102.is (omega arith)).0,
  c.requires.1,
  c.requires.2,
)

pub binding-requires : goal.binding-requires
binding-requires c = (
  (looks_there _ _ _ c.byte.ensures 108 c.in-108.is
      (omega arith)).0,
  c.requires.1,
  c.requires.2,
)

pub choice-requires : goal.choice-requires
choice-requires c = (
  (looks_there _ _ _ c.byte.ensures 105 c.in-105.is (omega arith)).0,
  c.requires.1,
  c.requires.2,
)

pub returns-in-102 : goal.returns-in-102
unfolding first rest
returns-in-102 c =
    λ rd d e.
    begins_left _ (single_word rd d e)
    (looks_there _ _ _ c.byte.ensures 102
    c.in-102.is (omega arith)).1 refl
    (c.for_or_false.ensures rd d e)

pub returns-in-108 : goal.returns-in-108
unfolding first rest
returns-in-108 c =
    λ rd d e.
    begins_left _ (single_word rd d e)
    (looks_there _ _ _ c.byte.ensures 108
    c.in-108.is (omega arith)).1 refl
    (c.binding.ensures rd d e)

pub returns-in-105 : goal.returns-in-105
unfolding first rest
returns-in-105 c =
    λ rd d e.
    begins_left _ (single_word rd d e)
    (looks_there _ _ _ c.byte.ensures 105
    c.in-105.is (omega arith)).1 refl
    (c.choice.ensures rd d e)

pub returns-in_default : goal.returns-in_default
returns-in_default c =
    λ rd d e.
    begins_sides rd d e
    (record {
      means = single_other rd d e _ _ (looks_first _ _ _ c.byte.ensures) (search rules);
      inside = c.requires.0;
      same = refl;
    })
