-- `operators::arms::union` meets its contract.
use native.Mathlib.Omega.{arith}
use borrow.Author.Rules.{rules}
use Rattle.arms.proofs.union.Goals as goal

pub union-requires : goal.union-requires
union-requires c =
    rw (c.stand-s.ensures, c.stand-other.ensures) (record {
      inside = (c.requires.table_stands.0.inside, c.requires.table_stands.1.inside, omega arith, omega arith);
      le_width = (c.requires.table_stands.0.low, c.requires.t_value);
    })

pub returns : goal.returns
returns c =
    rw (c.stand-s.ensures, c.stand-other.ensures) at
    c.union.ensures
