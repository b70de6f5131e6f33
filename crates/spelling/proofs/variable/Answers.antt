-- `spelling::variable` meets its contract.
use native.Mathlib.Omega.{arith}
use Prim.Native.Nat.{◌-◌}
use mathlib.Core.Path.{sym, ◌∙◌, ap}
use Rattle.numerals.specs.Answers.{read_place}
use Rattle.spelling.specs.Answers.{value_told}
use Rattle.parsing.specs.Reader.{ok}
use Rattle.spelling.proofs.Bridging.{looks_first, rest_drop}
use Rattle.spelling.proofs.Answering.{symbol_reads}
use Rattle.spelling.proofs.Choosing.{a_variable, variable_off, variable_is, variable_few}
use Rattle.spelling.proofs.variable.Goals as goal

pub returns-then-not-is_variable : goal.returns-then-not-is_variable
unfolding value_told read_place
returns-then-not-is_variable c =
    symbol_reads _ a_variable c.args.at c.spaces-from.result c.spaces-from.ensures.0
    (record {
      means =
          variable_off _ _ (looks_first _ _ _ c.byte-b.ensures)
          (sym c.is_variable.ensures ∙ c.if-not-is_variable.true);
      inside = c.spaces-from.ensures.1.inside;
    })

pub overflow_sub-result : goal.overflow_sub-result
overflow_sub-result c =
    (variable_few _ (sym c.is_variable.ensures ∙ c.if-not-is_variable.false)).0

pub overflow_add-result : goal.overflow_add-result
overflow_add-result c =
    let few = variable_few _ (sym c.is_variable.ensures ∙ c.if-not-is_variable.false) in
    omega (arith, (c.byte-b.ensures.there (omega arith)).0)

pub returns : goal.returns
unfolding value_told read_place
returns c =
    let is_one = sym c.is_variable.ensures ∙ c.if-not-is_variable.false in
    let few = variable_few _ is_one in
    symbol_reads _ a_variable c.args.at c.spaces-from.result c.spaces-from.ensures.0
    (record {
      means =
          variable_is _ _ (looks_first _ _ _ c.byte-b.ensures) is_one
          ∙ ap (ok (c.byte-b.result - 97))
          (rest_drop c.args.text.now c.spaces-from.result);
      inside = omega (arith, (c.byte-b.ensures.there (omega arith)).0);
    })
