-- `last` meets its contract: one operator after another.
use borrow.Author.Rules.{rules}
use Rattle.writing.specs.Listed.{columns_of, keys_of}
use Rattle.adding.specs.Ruled.{operator_of}
use Rattle.meaning.specs.Translation.{tail_last}
use Rattle.adding.proofs.Adding.{wrote_then}
use Rattle.rules.proofs.last.Goals as goal

pub returns : goal.returns
unfolding tail_last operator_of columns_of keys_of
returns c =
    wrote_then c.add-p.ensures c.add.ensures
