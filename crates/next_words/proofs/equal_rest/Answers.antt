-- `next_words::equal_rest` meets its contract.
use native.Mathlib.Omega.{arith}
use mathlib.Core.Bool.{true}
use mathlib.Core.Path.{refl, sym, ◌∙◌}
use Rattle.laws.specs.Characters.{first}
use Rattle.parsing.specs.Reader.{rest}
use Rattle.numerals.specs.Answers.{read_place}
use Rattle.spelling.specs.Answers.{value_told, equal_rest}
use Rattle.spelling.proofs.Bridging.{looks_first, looks_there}
use Rattle.spelling.proofs.Answering.{by_left, chosen}
use Rattle.spelling.proofs.Choosing.{equal_other}
use Rattle.next_words.proofs.equal_rest.Goals as goal

pub returns-then-not-compares : goal.returns-then-not-compares
returns-then-not-compares c =
    record {
      means = rw c.if-not-compares.true
          c.else_rest.ensures.means;
      inside = c.else_rest.ensures.inside;
    }

pub returns-then-b-from : goal.returns-then-b-from
unfolding first rest value_told read_place
returns-then-b-from c =
    let there = looks_there _ _ _ c.byte-b.ensures 113 (c.if-b-from.true ∙ c.from.ensures) (omega arith) in
    let a = c.args in
    chosen (equal_rest a.compares a.otherwise) (equal_rest true a.otherwise) there.1
    (rw c.if-not-compares.false)
    (by_left (equal_rest true a.otherwise) there.1 refl (record { means = refl; inside = there.0 }))

pub returns : goal.returns
returns c =
    record {
      means =
          rw c.if-not-compares.false
          (equal_other _ _ (looks_first _ _ _ c.byte-b.ensures)
          c.args.otherwise (λ e. c.if-b-from.false (e ∙ sym c.from.ensures)) ∙ c.else_rest-2.ensures.means);
      inside = c.else_rest-2.ensures.inside;
    }
