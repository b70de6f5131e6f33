-- `step_words::axis` meets its contract.
use borrow.Author.Rules.{rules}
use native.Mathlib.Omega.{arith}
use mathlib.Core.Path.{refl}
use Rattle.laws.specs.Characters.{first}
use Rattle.parsing.specs.Reader.{rest, read_axis}
use Rattle.spelling.proofs.Bridging.{looks_first, looks_there}
use Rattle.spelling.proofs.Answering.{by_left}
use Rattle.numerals.specs.Answers.{read_place}
use Rattle.spelling.specs.Answers.{value_told}
use Rattle.spelling.proofs.Choosing.{axis_other}
use Rattle.step_words.proofs.axis.Goals as goal

pub spelled-requires : goal.spelled-requires
spelled-requires c =
    (looks_there _ _ _ c.byte-b.ensures 99 c.in-99.is (omega arith)).0

pub descendant-requires : goal.descendant-requires
descendant-requires c =
    (looks_there _ _ _ c.byte-b.ensures 100 c.in-100.is (omega arith)).0

pub spelled-requires-in-115 : goal.spelled-requires-in-115
spelled-requires-in-115 c =
    (looks_there _ _ _ c.byte-b.ensures 115 c.in-115.is (omega arith)).0

pub parent-requires : goal.parent-requires
parent-requires c =
    (looks_there _ _ _ c.byte-b.ensures 112 c.in-112.is (omega arith)).0

pub spelled-requires-in-97 : goal.spelled-requires-in-97
spelled-requires-in-97 c =
    (looks_there _ _ _ c.byte-b.ensures 97 c.in-97.is (omega arith)).0

pub spelled-requires-in-102 : goal.spelled-requires-in-102
spelled-requires-in-102 c =
    (looks_there _ _ _ c.byte-b.ensures 102 c.in-102.is (omega arith)).0

pub returns-in-99 : goal.returns-in-99
unfolding first rest
returns-in-99 c =
    by_left read_axis
    (looks_there _ _ _ c.byte-b.ensures 99 c.in-99.is (omega arith)).1
    refl
    c.spelled.ensures

pub returns-in-100 : goal.returns-in-100
unfolding first rest
returns-in-100 c =
    by_left read_axis
    (looks_there _ _ _ c.byte-b.ensures 100 c.in-100.is (omega arith)).1
    refl
    c.descendant.ensures

pub returns-in-115 : goal.returns-in-115
unfolding first rest
returns-in-115 c =
    by_left read_axis
    (looks_there _ _ _ c.byte-b.ensures 115 c.in-115.is
    (omega arith)).1
    refl
    c.spelled-in-115.ensures

pub returns-in-112 : goal.returns-in-112
unfolding first rest
returns-in-112 c =
    by_left read_axis
    (looks_there _ _ _ c.byte-b.ensures 112 c.in-112.is (omega arith)).1
    refl
    c.parent.ensures

pub returns-in-97 : goal.returns-in-97
unfolding first rest
returns-in-97 c =
    by_left read_axis
    (looks_there _ _ _ c.byte-b.ensures 97 c.in-97.is (omega arith)).1
    refl
    c.spelled-in-97.ensures

pub returns-in-102 : goal.returns-in-102
unfolding first rest
returns-in-102 c =
    by_left read_axis
    (looks_there _ _ _ c.byte-b.ensures 102 c.in-102.is
    (omega arith)).1
    refl
    c.spelled-in-102.ensures

pub returns-in_default : goal.returns-in_default
unfolding value_told read_place
returns-in_default c =
    record {
      means = axis_other _ _ (looks_first _ _ _ c.byte-b.ensures) (search rules);
      inside = omega arith;
    }
