-- `step_words::or_self` meets its contract.
use native.Mathlib.Omega.{arith}
use mathlib.Core.Path.{refl, sym, ◌∙◌}
use Rattle.laws.specs.Characters.{first}
use Rattle.numerals.specs.Answers.{read_place}
use Rattle.spelling.specs.Answers.{value_told, or_self}
use Rattle.parsing.specs.Reader.{rest}
use Rattle.spelling.proofs.Bridging.{looks_first, looks_there}
use Rattle.spelling.proofs.Answering.{by_left}
use Rattle.spelling.proofs.Choosing.{self_other}
use Rattle.step_words.proofs.or_self.Goals as goal

pub spelled-requires : goal.spelled-requires
spelled-requires c =
    (looks_there _ _ _ c.byte-b.ensures 45 (c.if-b-from.true ∙ c.from.ensures) (omega arith)).0

pub returns-then-b-from : goal.returns-then-b-from
unfolding first rest
returns-then-b-from c =
    by_left or_self
    (looks_there _ _ _ c.byte-b.ensures 45 (c.if-b-from.true ∙ c.from.ensures) (omega arith)).1
    refl
    c.spelled.ensures

pub returns : goal.returns
unfolding value_told read_place
returns c =
    record {
      means = self_other _ _ (looks_first _ _ _ c.byte-b.ensures) (λ e. c.if-b-from.false (e ∙ sym c.from.ensures));
      inside = omega arith;
    }
