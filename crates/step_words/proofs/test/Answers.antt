-- `step_words::test` meets its contract.
use borrow.Author.Rules.{rules}
use native.Mathlib.Omega.{arith}
use mathlib.Core.Path.{refl}
use Rattle.laws.specs.Characters.{first}
use Rattle.parsing.specs.Reader.{rest, read_test}
use Rattle.spelling.proofs.Bridging.{looks_first, looks_there}
use Rattle.spelling.proofs.Answering.{by_left}
use Rattle.numerals.specs.Answers.{read_place}
use Rattle.spelling.specs.Answers.{value_told}
use Rattle.spelling.proofs.Choosing.{test_other}
use Rattle.step_words.proofs.test.Goals as goal

pub node-requires : goal.node-requires
node-requires c =
    (looks_there _ _ _ c.byte-b.ensures 110 c.in-110.is (omega arith)).0

pub test_called-requires : goal.test_called-requires
test_called-requires c =
    (looks_there _ _ _ c.byte-b.ensures 116 c.in-116.is (omega arith)).0

pub returns-in-110 : goal.returns-in-110
unfolding first rest
returns-in-110 c =
    by_left read_test
    (looks_there _ _ _ c.byte-b.ensures 110 c.in-110.is (omega arith)).1
    refl
    c.node.ensures

pub returns-in-42 : goal.returns-in-42
unfolding first rest value_told read_place
returns-in-42 c =
    let there = looks_there _ _ _ c.byte-b.ensures 42 c.in-42.is (omega arith) in
    by_left read_test there.1 refl (record { means = refl; inside = there.0 })

pub returns-in-116 : goal.returns-in-116
unfolding first rest
returns-in-116 c =
    by_left read_test
    (looks_there _ _ _ c.byte-b.ensures 116 c.in-116.is
    (omega arith)).1
    refl
    c.test_called.ensures

pub returns-in_default : goal.returns-in_default
unfolding value_told read_place
returns-in_default c =
    record {
      means = test_other _ _ (looks_first _ _ _ c.byte-b.ensures) (search rules);
      inside = omega arith;
    }
