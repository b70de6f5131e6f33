-- `openings::call` meets its contract.
use mathlib.Core.Path.{◌∙◌}
use Rattle.spelling.proofs.Answering.{passed, stopped}
use Rattle.operands.proofs.Follows.{halts_by, past_then, off_then}
use Rattle.openings.specs.Opened.{call_record}
use Rattle.openings.proofs.Comes.{opens_up, opens_call, call_at, call_rest}
use Rattle.openings.proofs.call.Goals as goal

pub returns-in_err-from : goal.returns-in_err-from
returns-in_err-from c =
    λ rd d.
    let a = c.args in
    opens_up rd d _ c.from_residual.ensures.1
    (halts_by (call_at rd d (call_record a.callee) a.rest.now _)
    (off_then (call_rest rd d (call_record a.callee)) (stopped c.opened.ensures c.in_err-from.was)))

pub returns : goal.returns
returns c =
    λ rd d.
    let a = c.args in
    let done = passed c.opened.ensures c.in_ok-from.was in
    opens_call rd d
    (record {
      mark = call_record a.callee;
      means =
          call_at rd d (call_record a.callee) a.rest.now _ ∙ past_then
          (call_rest rd d (call_record a.callee)) done;
      inside = done.inside;
      added = c.add_call-to.ensures;
    })
