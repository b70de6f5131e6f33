-- `rank_of` meets its contract: a cell holds an item, or is stray.
use mathlib.Core.Path.{sym, ap, ◌∙◌}
use mir.Facts.{to_z-of_z}
use Rattle.meaning.specs.World.{rank_of}
use Rattle.nodesets.proofs.Nodes.{rank_item, rank_stray}
use Rattle.nodesets.proofs.rank_of.Goals as goal

pub returns-in_err-item_of : goal.returns-in_err-item_of
returns-in_err-item_of c =
    rw c.from_residual.ensures (λ d e.
    rank_stray d _ (sym c.item_of.ensures ∙ c.in_err-item_of.was)
    ∙ ap (rank_of d) (to_z-of_z c.ranges.cell))

pub returns : goal.returns
returns c =
    λ d e.
    c.rank_in.ensures d e
    ∙ rank_item d _ (sym c.item_of.ensures ∙ c.in_ok-item_of.was)
    ∙ ap (rank_of d) (to_z-of_z c.ranges.cell)
