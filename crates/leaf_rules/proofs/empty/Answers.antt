-- `empty` meets its contract: one operator after another.
use borrow.Author.Rules.{rules}
use mathlib.Core.Path.{refl}
use Rattle.writing.specs.Listed.{columns_of, keys_of}
use Rattle.adding.specs.Ruled.{operator_of}
use Rattle.meaning.specs.Translation.{rule_e}
use Rattle.adding.proofs.Adding.{wrote_then}
use Rattle.leaf_rules.proofs.empty.Goals as goal

pub returns : goal.returns
unfolding rule_e operator_of columns_of keys_of
returns c =
    record {
      wrote = wrote_then (wrote_then c.add-p.ensures c.add-q.ensures)
          c.add-r.ensures;
      table = refl;
      after = refl;
    }
