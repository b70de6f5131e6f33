-- `rowwise::each::rowwise` meets its contract: it fails where the task fails on some row, and lays the rows where it
-- does not.
use mathlib.Core.Path.{refl, sym, ◌∙◌}
use native.Mathlib.Omega.{arith}
use borrow.Author.Tests.{not-true, not-false}
use Rattle.tables.specs.Layout.{Owes, Inside}
use Rattle.rowwise.proofs.Tasks.{suits_worked, settled_all, fails_some}
use borrow.Author.Rules.{rules}
use Rattle.rowwise.proofs.each.rowwise.Goals as goal

pub settles-requires : goal.settles-requires
unfolding Inside
settles-requires c =
    (omega arith, omega arith, suits_worked _ _ _ _ c.requires.suits)

pub returns-then-not-settles : goal.returns-then-not-settles
unfolding Owes
returns-then-not-settles c =
    record {
      made_is = fails_some _ _ _ _ _ (sym c.settles.ensures ∙ c.if-not-settles.true);
      long = refl;
    }

pub each_row-requires : goal.each_row-requires
each_row-requires c =
    record {
      inside = c.requires.inside;
      suits = c.requires.suits;
      bound = c.requires.bound;
      settled = settled_all _ _ _ _ _ (sym c.settles.ensures ∙ c.if-not-settles.false);
    }
