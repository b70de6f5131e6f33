-- `directory::stand` meets its contract.
use borrow.Author.Rules.{rules}
use Rattle.directory.specs.Directory.{stand_at}
use Rattle.directory.proofs.stand.Goals as goal

pub returns : goal.returns
unfolding stand_at
returns c = search rules
