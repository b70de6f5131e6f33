-- `step_words::node` meets its contract.
use native.Mathlib.Omega.{arith}
use mathlib.Core.Path.{refl, sym, ◌∙◌}
use Rattle.laws.specs.Characters.{first}
use Rattle.spelling.specs.Answers.{node_rest}
use Rattle.parsing.specs.Reader.{rest}
use Rattle.spelling.proofs.Bridging.{looks_first, looks_there}
use Rattle.spelling.proofs.Answering.{by_left}
use Rattle.spelling.proofs.Choosing.{node_other}
use Rattle.step_words.proofs.node.Goals as goal

pub test_called-requires : goal.test_called-requires
test_called-requires c =
    (looks_there _ _ _ c.byte-b.ensures 111 (c.if-b-from.true ∙ c.from.ensures) (omega arith)).0

pub returns-then-b-from : goal.returns-then-b-from
unfolding first rest
returns-then-b-from c =
    by_left node_rest
    (looks_there _ _ _ c.byte-b.ensures 111 (c.if-b-from.true ∙ c.from.ensures) (omega arith)).1
    refl
    c.test_called.ensures

pub returns : goal.returns
returns c =
    record {
      means =
          node_other _ _ (looks_first _ _ _ c.byte-b.ensures) (λ e. c.if-b-from.false (e ∙ sym c.from.ensures))
          ∙ c.named.ensures.means;
      inside = c.named.ensures.inside;
    }
