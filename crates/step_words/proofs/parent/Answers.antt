-- `step_words::parent` meets its contract.
use borrow.Author.Rules.{rules}
use native.Mathlib.Omega.{arith}
use mathlib.Core.Path.{refl}
use Rattle.laws.specs.Characters.{first}
use Rattle.parsing.specs.Reader.{rest}
use Rattle.spelling.proofs.Bridging.{looks_first, looks_there}
use Rattle.spelling.proofs.Answering.{by_left}
use Rattle.numerals.specs.Answers.{read_place}
use Rattle.spelling.specs.Answers.{value_told, parent_rest}
use Rattle.spelling.proofs.Choosing.{parent_other}
use Rattle.step_words.proofs.parent.Goals as goal

pub spelled-requires : goal.spelled-requires
spelled-requires c =
    (looks_there _ _ _ c.byte-b.ensures 97 c.in-97.is (omega arith)).0

pub spelled-requires-in-114 : goal.spelled-requires-in-114
spelled-requires-in-114 c =
    (looks_there _ _ _ c.byte-b.ensures 114 c.in-114.is (omega arith)).0

pub returns-in-97 : goal.returns-in-97
unfolding first rest
returns-in-97 c =
    by_left parent_rest
    (looks_there _ _ _ c.byte-b.ensures 97 c.in-97.is (omega arith)).1
    refl
    c.spelled.ensures

pub returns-in-114 : goal.returns-in-114
unfolding first rest
returns-in-114 c =
    by_left parent_rest
    (looks_there _ _ _ c.byte-b.ensures 114 c.in-114.is
    (omega arith)).1
    refl
    c.spelled-in-114.ensures

pub returns-in_default : goal.returns-in_default
unfolding value_told read_place
returns-in_default c =
    record {
      means = parent_other _ _ (looks_first _ _ _ c.byte-b.ensures) (search rules);
      inside = omega arith;
    }
