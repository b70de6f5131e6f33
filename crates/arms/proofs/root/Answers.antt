-- `operators::arms::root` meets its contract.
use native.Mathlib.Omega.{arith}
use borrow.Author.Rules.{rules}
use Rattle.arms.proofs.root.Goals as goal

pub root-requires : goal.root-requires
root-requires c =
    rw c.stand-s.ensures (record {
      inside = (c.requires.table_stands.0.inside, omega arith, omega arith, omega arith);
      rows_in_bounds = (omega arith, omega arith, omega arith);
    })

pub returns : goal.returns
returns c =
    rw c.stand-s.ensures at c.root.ensures
