-- `for_tail` meets its contract: one operator after another.
use borrow.Author.Rules.{rules}
use mathlib.Core.Path.{refl}
use Rattle.writing.specs.Listed.{columns_of, keys_of}
use Rattle.adding.specs.Ruled.{operator_of}
use Rattle.meaning.specs.Translation.{tail_f}
use Rattle.adding.proofs.Adding.{wrote_then}
use Rattle.scopes.proofs.for_tail.Goals as goal

pub returns : goal.returns
unfolding tail_f operator_of columns_of keys_of
returns c =
    record {
      wrote = wrote_then (wrote_then c.add-p.ensures c.add-q.ensures)
          c.add-r.ensures;
      table = refl;
      after = refl;
    }
