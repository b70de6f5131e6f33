-- `into_branch` meets its contract: the flags of the free variables, then the variables lifted.
use Rattle.carrying.proofs.Carrying.{branch_carried}
use Rattle.carrying.proofs.into_branch.Goals as goal

pub returns : goal.returns
returns c =
    branch_carried c.free-flags.result c.free-flags.ensures c.lift.ensures
