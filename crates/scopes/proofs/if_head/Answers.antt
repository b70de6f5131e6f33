-- `if_head` meets its contract: one operator after another.
use borrow.Author.Rules.{rules}
use Rattle.writing.specs.Listed.{columns_of, keys_of}
use Rattle.adding.specs.Ruled.{operator_of}
use Rattle.meaning.specs.Translation.{head_i}
use Rattle.adding.proofs.Adding.{wrote_then}
use Rattle.scopes.proofs.if_head.Goals as goal

pub returns : goal.returns
unfolding head_i operator_of columns_of keys_of
returns c =
    wrote_then (wrote_then (wrote_then c.add-p.ensures c.add-q.ensures) c.add-r.ensures) c.add.ensures
