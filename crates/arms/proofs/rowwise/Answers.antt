-- `operators::arms::rowwise` meets its contract.
use native.Mathlib.Omega.{arith}
use borrow.Author.Rules.{rules}
use Rattle.arms.proofs.rowwise.Goals as goal

pub rowwise-requires : goal.rowwise-requires
rowwise-requires c =
    rw c.stand-s.ensures (record {
      inside = (c.requires.table_stands.0.inside, omega arith, omega arith, omega arith);
      suits = c.requires.suits;
      bound = c.requires.bound;
    })

pub returns : goal.returns
returns c =
    rw c.stand-s.ensures at c.rowwise.ensures
