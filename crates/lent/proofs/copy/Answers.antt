-- `copy` meets its contract.
use mathlib.Core.Path.{◌∙◌}
use Rattle.lent.proofs.Moves.{copied}
use Rattle.lent.proofs.copy.Goals as goal

pub returns : goal.returns
returns c =
    c.copy_within.ensures.after ∙ copied _ _ _ _ c.requires.1
