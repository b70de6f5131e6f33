-- `check` meets its contract: the walk over the query decides the answer.
use Rattle.std.proofs.lemmas.Result.{err_from_is_err_and}
use Rattle.queries.proofs.Walking.{call_stopped, call_whole, call_extra}
use Rattle.queries.proofs.check.Goals as goal

pub returns-in_err-next : goal.returns-in_err-next
returns-in_err-next c =
    let p = err_from_is_err_and c.from_residual.result c.from_residual.ensures.1 in
    rw (p.1, p.2)
    (call_stopped c.args.query.now c.operand.result c.operand.ensures c.in_err-next.field-0.0 c.in_err-next.was)

pub returns-then-next-query : goal.returns-then-next-query
returns-then-next-query c =
    let w = c.operand in
    let x = c.in_ok-next in
    call_whole c.args.query.now w.result w.ensures x.field-0 x.was c.if-next-query.true

pub returns-else-next-query : goal.returns-else-next-query
returns-else-next-query c =
    let w = c.operand in
    let x = c.in_ok-next in
    call_extra c.args.query.now w.result w.ensures x.field-0 x.was _ c.refused.ensures c.if-next-query.false
