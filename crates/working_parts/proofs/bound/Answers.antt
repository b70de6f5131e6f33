-- `bound` meets its contract: both rows of the scope are set at the variable.
use Rattle.working_parts.specs.Scopes.{scoping}
use borrow.Author.Rules.{rules}
use Rattle.working_parts.proofs.bound.Goals as goal

pub returns : goal.returns
unfolding scoping
returns c =
    search rules
