-- `spelling::enter` meets its contract.
use native.Mathlib.Omega.{arith}
use mathlib.Core.Path.{◌∙◌, ap}
use Rattle.numerals.specs.Answers.{fixed_place}
use Rattle.spelling.specs.Answers.{fixed_told}
use Rattle.parsing.specs.Reader.{ok}
use Rattle.spelling.proofs.Answering.{enter_space, enter_joins, enter_free, space_seen, joins_seen, spaces_skip}
use Rattle.spelling.proofs.enter.Goals as goal

pub returns-then-is_space : goal.returns-then-is_space
unfolding fixed_told fixed_place
returns-then-is_space c =
    let a = c.args in
    record {
      means =
          enter_space _ _
          (space_seen _ _ _ c.byte-b.ensures _ c.is_space.ensures ∙ c.if-is_space.true)
          ∙ ap (ok tt) (spaces_skip a.text.now a.at c.spaces.result c.spaces.ensures.0);
      inside = c.spaces.ensures.1.inside;
    }

pub returns-then-joins : goal.returns-then-joins
unfolding fixed_told fixed_place
returns-then-joins c =
    let seen = c.byte-b.ensures in
    record {
      means =
          enter_joins _ _ (space_seen _ _ _ seen _ c.is_space.ensures ∙ c.if-is_space.false)
          (joins_seen _ _ _ seen _ _ c.joins.ensures ∙ c.if-joins.true);
      inside = omega arith;
    }

pub returns : goal.returns
unfolding fixed_told fixed_place
returns c =
    let seen = c.byte-b.ensures in
    record {
      means =
          enter_free _ _ (space_seen _ _ _ seen _ c.is_space.ensures ∙ c.if-is_space.false)
          (joins_seen _ _ _ seen _ _ c.joins.ensures ∙ c.if-joins.false);
      inside = omega arith;
    }
