-- `literal` meets its contract: one operator after another.
use borrow.Author.Rules.{rules}
use mathlib.Core.Path.{refl}
use Rattle.writing.specs.Listed.{columns_of, keys_of}
use Rattle.adding.specs.Ruled.{operator_of}
use Rattle.meaning.specs.Translation.{rule_l}
use Rattle.adding.proofs.Adding.{wrote_then, wrote_cell}
use Rattle.leaf_rules.proofs.literal.Goals as goal

pub returns : goal.returns
unfolding rule_l operator_of columns_of keys_of
returns c =
    record {
      wrote = wrote_then c.add-p.ensures (wrote_cell _ _ c.ranges.cell
          c.add-q.ensures);
      table = refl;
      after = refl;
    }
