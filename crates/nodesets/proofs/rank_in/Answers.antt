-- `marks::rank_in` meets its contract, item by item.
use Rattle.nodesets.proofs.Nodes.{rank_node, rank_far, rank_other}
use Rattle.nodesets.proofs.rank_in.Goals as goal

pub returns-then-rank-rows : goal.returns-then-rank-rows
returns-then-rank-rows c =
    λ d e. rank_node d c.in-Node.is e c.if-rank-rows.true

pub returns-else-rank-rows : goal.returns-else-rank-rows
returns-else-rank-rows c =
    λ d e. rank_far d c.in-Node.is e c.if-rank-rows.false

pub returns-in-Integer : goal.returns-in-Integer
returns-in-Integer c =
    λ d e. rank_other d c.in-Integer.is
