-- `beginnings::for_or_false` meets its contract.
use borrow.Author.Rules.{rules}
use native.Mathlib.Omega.{arith}
use mathlib.Core.Path.{refl}
use Rattle.parsing.specs.Reader.{rest}
use Rattle.laws.specs.Characters.{first}
use Rattle.spelling.proofs.Bridging.{looks_first, looks_there}
use Rattle.beginnings.specs.Begun.{for_part}
use Rattle.beginnings.proofs.Begun.{begins_left, begins_sides, for_other}
use Rattle.beginnings.proofs.for_or_false.Goals as goal

pub binding-requires : goal.binding-requires
binding-requires c = (
  (looks_there _ _ _ c.byte.ensures 111 c.in-111.is
      (omega arith)).0,
  c.requires.1,
  c.requires.2,
)

pub returns-in-111 : goal.returns-in-111
unfolding first rest
returns-in-111 c =
    λ rd d e.
    begins_left _ (for_part rd d e)
    (looks_there _ _ _ c.byte.ensures 111
    c.in-111.is (omega arith)).1 refl
    (c.binding.ensures rd d e)

pub returns-in_default : goal.returns-in_default
returns-in_default c =
    λ rd d e.
    begins_sides rd d e
    (record {
      means = for_other rd d e _ _ (looks_first _ _ _ c.byte.ensures) (search rules);
      inside = c.requires.0;
      same = refl;
    })
