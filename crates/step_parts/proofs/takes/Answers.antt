-- `step_parts::takes` meets its contract: a row that is not on the axis is not tested.
use Rattle.step_parts.proofs.takes.Goals as goal

pub returns-then-on : goal.returns-then-on
returns-then-on c =
    λ n. rw c.if-on.true (c.passes.ensures n)

pub returns-else-on : goal.returns-else-on
returns-else-on c =
    λ n. rw c.if-on.false
