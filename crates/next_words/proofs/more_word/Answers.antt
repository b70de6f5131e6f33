-- `next_words::more_word` meets its contract.
use native.Mathlib.Omega.{arith}
use Rattle.numerals.specs.Answers.{read_place}
use Rattle.spelling.specs.Answers.{value_told}
use Rattle.spelling.proofs.Bridging.{rest_drop}
use Rattle.next_words.proofs.more_word.Goals as goal

pub returns-then-may : goal.returns-then-may
returns-then-may c =
    let a = c.args in
    record {
      means = rw (c.if-may.true, rest_drop a.text.now a.at) c.spelled.ensures.means;
      inside = c.spelled.ensures.inside;
    }

pub returns : goal.returns
unfolding value_told read_place
returns c =
    record { means = rw c.if-may.false; inside = omega arith }
