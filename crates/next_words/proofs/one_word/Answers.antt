-- `next_words::one_word` meets its contract.
use native.Mathlib.Omega.{arith}
use mathlib.Core.Path.{ap}
use Rattle.numerals.specs.Answers.{read_place}
use Rattle.spelling.specs.Answers.{value_told}
use Rattle.parsing.specs.Reader.{ok}
use Rattle.spelling.proofs.Bridging.{rest_drop}
use Rattle.next_words.proofs.one_word.Goals as goal

pub returns-then-may : goal.returns-then-may
unfolding value_told read_place
returns-then-may c =
    let a = c.args in
    record { means = rw c.if-may.true (ap (ok a.next) (rest_drop a.text.now a.at)); inside = omega arith }

pub returns : goal.returns
unfolding value_told read_place
returns c =
    record { means = rw c.if-may.false; inside = omega arith }
