-- `next_words::next_word` meets its contract.
use borrow.Author.Rules.{rules}
use native.Mathlib.Omega.{arith}
use mathlib.Core.Path.{refl, ◌∙◌}
use Rattle.laws.specs.Characters.{first}
use Rattle.parsing.specs.Reader.{rest}
use Rattle.spelling.proofs.Bridging.{looks_first, looks_there}
use Rattle.spelling.proofs.Answering.{by_left}
use Rattle.numerals.specs.Answers.{read_place}
use Rattle.spelling.specs.Answers.{value_told, next_word}
use Rattle.spelling.proofs.Choosing.{next_other}
use Rattle.next_words.proofs.next_word.Goals as goal

pub spelled-requires : goal.spelled-requires
spelled-requires c =
    (looks_there _ _ _ c.byte-b.ensures 105 c.in-105.is (omega arith)).0

pub returns-in-47 : goal.returns-in-47
unfolding first rest value_told read_place
returns-in-47 c =
    let a = c.args in
    let there = looks_there _ _ _ c.byte-b.ensures 47 c.in-47.is (omega arith) in
    by_left (next_word a.ends a.compared) there.1 refl (record { means = refl; inside = there.0 })

pub returns-in-42 : goal.returns-in-42
unfolding first rest value_told read_place
returns-in-42 c =
    let a = c.args in
    let there = looks_there _ _ _ c.byte-b.ensures 42 c.in-42.is (omega arith) in
    by_left (next_word a.ends a.compared) there.1 refl (record { means = refl; inside = there.0 })

pub returns-in-105 : goal.returns-in-105
unfolding first rest
returns-in-105 c =
    let a = c.args in
    by_left (next_word a.ends a.compared)
    (looks_there _ _ _ c.byte-b.ensures 105 c.in-105.is
    (omega arith)).1
    refl
    c.spelled.ensures

pub returns-in-43 : goal.returns-in-43
unfolding first rest value_told read_place
returns-in-43 c =
    let a = c.args in
    let there = looks_there _ _ _ c.byte-b.ensures 43 c.in-43.is (omega arith) in
    by_left (next_word a.ends a.compared) there.1 refl (record { means = refl; inside = there.0 })

pub returns-in-45 : goal.returns-in-45
unfolding first rest value_told read_place
returns-in-45 c =
    let a = c.args in
    let there = looks_there _ _ _ c.byte-b.ensures 45 c.in-45.is (omega arith) in
    by_left (next_word a.ends a.compared) there.1 refl (record { means = refl; inside = there.0 })

pub returns-in_default : goal.returns-in_default
returns-in_default c =
    let a = c.args in
    record {
      means = next_other _ _ (looks_first _ _ _ c.byte-b.ensures) a.ends a.compared
          (search rules) ∙ c.end_word.ensures.means;
      inside = c.end_word.ensures.inside;
    }
