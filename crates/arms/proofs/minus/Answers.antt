-- `operators::arms::minus` meets its contract.
use mathlib.Core.Path.{sym}
use native.Mathlib.Omega.{arith}
use Rattle.rowwise.specs.Tasks.{Suits, wider}
use borrow.Author.Rules.{rules}
use Rattle.arms.proofs.minus.Goals as goal

pub rowwise-requires : goal.rowwise-requires
unfolding Suits wider
rowwise-requires c =
    rw c.stand-other.ensures (record {
      table_stands = (c.requires.table_stands.0, omega arith, omega arith, omega arith);
      suits = (c.requires.table_stands.1.inside, sym c.requires.rows_in_bounds.1);
      bound = (c.requires.table_stands.0.low, c.requires.table_stands.0.high);
    })

pub returns : goal.returns
unfolding wider
returns c =
    rw c.stand-other.ensures at c.rowwise.ensures
