-- `stepping::is_node` meets its contract: a cell that holds a node has a rank.
use mathlib.Core.Path.{ap, ◌∙◌}
use mir.Facts.{to_z-of_z}
use Rattle.meaning.specs.World.{rank_of}
use Rattle.tables.specs.Laying.{succeeds}
use Rattle.stepping.specs.Marking.{is_node}
use Rattle.stepping.proofs.Nodes.{some_found}
use Rattle.stepping.proofs.is_node.Goals as goal

pub returns : goal.returns
unfolding is_node
returns c =
    λ d e.
    c.is_some.ensures ∙ some_found c.rank_of.result
    ∙ ap succeeds (c.rank_of.ensures d e ∙ ap (rank_of d) (to_z-of_z c.ranges.cell))
