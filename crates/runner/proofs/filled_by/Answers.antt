-- `runner::filled_by` meets its contract.
use borrow.Author.Rules.{rules}
use Rattle.runner.specs.Answers.{filled_by}
use Rattle.runner.proofs.filled_by.Goals as goal

pub returns : goal.returns
unfolding filled_by
returns c = search rules
