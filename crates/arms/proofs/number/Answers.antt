-- `operators::arms::number` meets its contract.
use native.Mathlib.Omega.{arith}
use Rattle.arms.proofs.Keyed.{keys_suit, keys_owe}
use borrow.Author.Rules.{rules}
use Rattle.arms.proofs.number.Goals as goal

pub number-requires : goal.number-requires
number-requires c =
    rw c.stand-s.ensures (record {
      inside = (c.requires.table_stands.0.inside, omega arith, omega arith, omega arith);
      key_columns = keys_suit _ _ _ _ c.keys-by.ensures c.requires.n_value;
      in_bounds = (omega arith, omega arith);
    })

pub returns : goal.returns
returns c =
    keys_owe c.keys-by.result _ _ _ _ _ _ _ _ _ c.keys-by.ensures
    (rw c.stand-s.ensures at c.number.ensures)
