-- `next_words::equal_word` meets its contract.
use native.Mathlib.Omega.{arith}
use Prim.Native.Nat.{◌+◌}
use mathlib.Core.Path.{◌≡◌, sym, ◌∙◌}
use mathlib.Core.Bool.{◌||◌}
use lib.ListN.{drop}
use Rattle.numerals.specs.Answers.{read_place}
use Rattle.spelling.specs.Answers.{value_told}
use Rattle.spelling.proofs.Choosing.{equal_on}
use Rattle.spelling.proofs.Bridging.{rest_drop}
use Rattle.next_words.proofs.equal_word.Goals as goal
use Rattle.next_words.proofs.equal_word.Goals.{then-compares, else-compares}

pub returns-then-may : goal.returns-then-may
returns-then-may c =
    let a = c.args in
    let may_is : c.if-compares.may ≡ (a.compares || a.otherwise) =
    elim c.if-compares.branch [
      | then-compares w ↦ rw w.if-compares.true (w.may-is ∙ w.if-compares.true)
      | else-compares w ↦ rw w.if-compares.false w.may-is
    ] in
    record {
      means = equal_on a.compares a.otherwise (drop a.at a.text.now) (drop (a.at + 1) a.text.now)
          (rest_drop a.text.now a.at) (sym may_is ∙ c.if-may.true)
          ∙ c.equal_rest.ensures.means;
      inside = c.equal_rest.ensures.inside;
    }

pub returns : goal.returns
unfolding value_told read_place
returns c =
    let a = c.args in
    let may_is : c.if-compares.may ≡ (a.compares || a.otherwise) =
    elim c.if-compares.branch [
      | then-compares w ↦ rw w.if-compares.true (w.may-is ∙ w.if-compares.true)
      | else-compares w ↦ rw w.if-compares.false w.may-is
    ] in
    record { means = rw (sym may_is ∙ c.if-may.false); inside = omega arith }
