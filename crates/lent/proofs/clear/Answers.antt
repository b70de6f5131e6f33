-- `clear` meets its contract: the cells from `from` on are filled with 0.
use Rattle.lent.proofs.Moves.{filled}
use Rattle.lent.proofs.clear.Goals as goal

pub returns : goal.returns
returns c =
    filled _ _ _ _ c.requires (c.fill.ensures.after (λ y e. e))
