-- `values` meets its contract: each item's value stands in its place.
use Rattle.stack.proofs.Exits.{had_some, had_none}
use Rattle.stack_records.proofs.Valuing.{valued_none, valued_some}
use Rattle.stack_records.proofs.values.Goals as goal

pub returns-in_err-ok_or : goal.returns-in_err-ok_or
returns-in_err-ok_or c =
    λ room f.
    let p = had_none _ _ _ _ _ c.ok_or.ensures.value c.in_err-ok_or.was c.from_residual.ensures.1 in
    rw p.1
    (valued_none _ _ _ room _ _ c.args.operand c.requires.1 f _ c.take_values.ensures c.take_values.auto.cells p.0)

pub returns : goal.returns
returns c =
    λ room f.
    let p = had_some _ _ _ _ c.ok_or.ensures.value c.in_ok-ok_or.was in
    valued_some _ _ _ room _ _ c.args.operand c.requires.1 f _ c.take_values.ensures c.take_values.auto.cells _ p
