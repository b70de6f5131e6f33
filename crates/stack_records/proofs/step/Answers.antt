-- `step` meets its contract: the nodes that are reached, where the room suffices.
use Rattle.stack.proofs.Exits.{had_some, had_none}
use Rattle.stack_records.proofs.Reaching.{was_ok, was_err, leaves_strange, leaves_short, leaves_reached}
use Rattle.stack_records.proofs.step.Goals as goal

pub returns-in_err-ok_or : goal.returns-in_err-ok_or
returns-in_err-ok_or c =
    let p = had_none _ _ _ _ _ c.ok_or.ensures.value c.in_err-ok_or.was c.from_residual.ensures.1 in
    let w = was_err _ _ c.ok.ensures.value p.0 in
    rw p.1 (leaves_strange _ _ _ _ _ _ _ _ _ c.requires.0 c.requires.1 _ _ c.reach.ensures _ w.1)

pub returns-then-room-end : goal.returns-then-room-end
returns-then-room-end c =
    let p = had_some _ _ _ _ c.ok_or.ensures.value c.in_ok-ok_or.was in
    leaves_short _ _ _ _ _ _ _ _ _ c.requires.0 c.requires.1 _ _ c.reach.ensures _ (was_ok _ _ _ c.ok.ensures.value p)
    _ c.count-n.ensures c.if-room-end.true

pub returns : goal.returns
returns c =
    let p = had_some _ _ _ _ c.ok_or.ensures.value c.in_ok-ok_or.was in
    leaves_reached _ _ _ _ _ _ _ _ _ c.requires.0 c.requires.1 _ _ c.reach.ensures _
    (was_ok _ _ _ c.ok.ensures.value p) _ c.count-n.ensures _ _ c.if-room-end.false c.write.ensures.1 c.raise.ensures
