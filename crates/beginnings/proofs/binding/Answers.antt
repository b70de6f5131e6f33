-- `beginnings::binding` meets its contract: what is read, one after another, and the record of the binding.
use mathlib.Core.Path.{◌∙◌}
use native.Mathlib.Omega.{arith}
use Rattle.spelling.specs.Answers.{kind_is}
use Rattle.spelling.proofs.Answering.{passed, stopped, is_value, no_value, word_reads}
use Rattle.operands.proofs.Bytes.{variable_few}
use Rattle.operands.proofs.Follows.{halts_by, off_then}
use Rattle.beginnings.specs.Begun.{binding_record, binding_rest, binding_word, binding_variable, binding_sign}
use Rattle.beginnings.proofs.Begun.{begins_binding, begins_up, sign_at, variable_at, word_at, rest_at}
use Rattle.beginnings.proofs.binding.Goals as goal

pub returns-in_err-begun : goal.returns-in_err-begun
returns-in_err-begun c =
    λ rd d e.
    let a = c.args in
    begins_up rd d e _ c.from_residual.ensures.1
    (off_then (λ done. binding_sign rd d e (binding_record a.binder) a.behind.now (kind_is a.before))
    (stopped (word_reads _ _ _ _ (λ i. (c.type_inv.rest i).fits) c.word.ensures) c.in_err-begun.was))

pub fixed-requires : goal.fixed-requires
fixed-requires c = (passed (word_reads _ _ _ _ (λ i. (c.type_inv.rest i).fits) c.word.ensures) c.in_ok-begun.was).inside

pub returns-in_err-signed : goal.returns-in_err-signed
returns-in_err-signed c =
    λ rd d e.
    let a = c.args in
    let r = binding_record a.binder in
    let k = kind_is a.before in
    begins_up rd d e _ c.from_residual-in_err-signed.ensures.1
    (halts_by
    (sign_at rd d e a.behind.now k r
    (passed (word_reads _ _ _ _ (λ i. (c.type_inv.rest i).fits) c.word.ensures) c.in_ok-begun.was))
    (off_then (λ signed. binding_variable rd d e r a.behind.now k)
    (stopped c.fixed.ensures c.in_err-signed.was)))

pub variable-requires : goal.variable-requires
variable-requires c = (passed c.fixed.ensures c.in_ok-signed.was).inside

pub returns-in_err-v : goal.returns-in_err-v
returns-in_err-v c =
    λ rd d e.
    let a = c.args in
    let r = binding_record a.binder in
    let k = kind_is a.before in
    begins_up rd d e _ c.from_residual-in_err-v.ensures.1
    (halts_by
    (sign_at rd d e a.behind.now k r
    (passed (word_reads _ _ _ _ (λ i. (c.type_inv.rest i).fits) c.word.ensures) c.in_ok-begun.was)
    ∙ variable_at rd d e a.behind.now k r _ (passed c.fixed.ensures c.in_ok-signed.was))
    (off_then (λ v. binding_word rd d e (r v) a.behind.now k)
    (no_value c.variable.ensures c.in_err-v.was)))

pub fixed-requires-2 : goal.fixed-requires-2
fixed-requires-2 c = (is_value c.variable.ensures c.in_ok-v.was).inside

pub returns-in_err-from : goal.returns-in_err-from
returns-in_err-from c =
    λ rd d e.
    let a = c.args in
    let r = binding_record a.binder in
    let k = kind_is a.before in
    begins_up rd d e _ c.from_residual-in_err-from.ensures.1
    (halts_by
    (sign_at rd d e a.behind.now k r
    (passed (word_reads _ _ _ _ (λ i. (c.type_inv.rest i).fits) c.word.ensures) c.in_ok-begun.was)
    ∙ variable_at rd d e a.behind.now k r _ (passed c.fixed.ensures c.in_ok-signed.was)
    ∙ word_at rd d e a.behind.now k r _ (is_value c.variable.ensures c.in_ok-v.was))
    (off_then (λ done. binding_rest rd d e (r c.in_ok-v.v.what) k)
    (stopped c.fixed-2.ensures c.in_err-from.was)))

pub add_binding-to-requires : goal.add_binding-to-requires
add_binding-to-requires c =
    let few = variable_few _ _ _ (is_value c.variable.ensures c.in_ok-v.was).means in
    (c.requires.1, c.requires.2, omega arith)

pub returns : goal.returns
returns c =
    λ rd d e.
    let a = c.args in
    let r = binding_record a.binder in
    let k = kind_is a.before in
    let done = passed c.fixed-2.ensures c.in_ok-from.was in
    begins_binding rd d e a.before
    (record {
      mark = r c.in_ok-v.v.what;
      means =
          sign_at rd d e a.behind.now k r
          (passed (word_reads _ _ _ _ (λ i. (c.type_inv.rest i).fits) c.word.ensures) c.in_ok-begun.was)
          ∙ variable_at rd d e a.behind.now k r _ (passed c.fixed.ensures c.in_ok-signed.was)
          ∙ word_at rd d e a.behind.now k r _ (is_value c.variable.ensures c.in_ok-v.was)
          ∙ rest_at rd d e a.behind.now k (r c.in_ok-v.v.what) _ done;
      inside = done.inside;
      added = c.add_binding-to.ensures;
    })
