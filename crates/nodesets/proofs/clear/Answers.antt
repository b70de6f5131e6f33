-- `clear` meets its contract: the flags below `rows` are filled with false.
use Rattle.nodesets.proofs.Nodes.{cleared}
use Rattle.nodesets.proofs.clear.Goals as goal

pub returns : goal.returns
returns c =
    cleared _ _ _ _ (c.fill.ensures.after (λ y e. e)) c.requires
