-- `next_words::else_rest` meets its contract.
use native.Mathlib.Omega.{arith}
use mathlib.Core.Bool.{true}
use mathlib.Core.Path.{refl, sym, ◌∙◌}
use Rattle.laws.specs.Characters.{first}
use Rattle.parsing.specs.Reader.{rest}
use Rattle.numerals.specs.Answers.{read_place}
use Rattle.spelling.specs.Answers.{value_told, else_rest}
use Rattle.spelling.proofs.Bridging.{looks_first, looks_there}
use Rattle.spelling.proofs.Answering.{by_left, chosen}
use Rattle.spelling.proofs.Choosing.{else_other}
use Rattle.next_words.proofs.else_rest.Goals as goal

pub returns-then-not-otherwise : goal.returns-then-not-otherwise
unfolding value_told read_place
returns-then-not-otherwise c =
    record { means = rw c.if-not-otherwise.true; inside = omega arith }

pub spelled-requires : goal.spelled-requires
spelled-requires c =
    (looks_there _ _ _ c.byte-b.ensures 108 (c.if-b-from.true ∙ c.from.ensures) (omega arith)).0

pub returns-then-b-from : goal.returns-then-b-from
unfolding first rest
returns-then-b-from c =
    let o = c.args.otherwise in
    chosen (else_rest o) (else_rest true)
    (looks_there _ _ _ c.byte-b.ensures 108 (c.if-b-from.true ∙ c.from.ensures) (omega arith)).1
    (rw c.if-not-otherwise.false)
    (by_left (else_rest true)
    (looks_there _ _ _ c.byte-b.ensures 108 (c.if-b-from.true ∙ c.from.ensures) (omega arith)).1
    refl
    c.spelled.ensures)

pub returns : goal.returns
unfolding value_told read_place
returns c =
    record {
      means =
          rw c.if-not-otherwise.false
          (else_other _ _ (looks_first _ _ _ c.byte-b.ensures) (λ e. c.if-b-from.false (e ∙ sym c.from.ensures)));
      inside = omega arith;
    }
