-- `variable` meets its contract: the variable's items stand below the top.
use Rattle.working_parts.specs.Scopes.{held}
use Rattle.working_parts.proofs.variable.Goals as goal

pub again-requires : goal.again-requires
again-requires c =
    let p = c.requires in
    (p.2, p.1.below _ p.0)

pub returns : goal.returns
unfolding held
returns c =
    c.again.ensures
