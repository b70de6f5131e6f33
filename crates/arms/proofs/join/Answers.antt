-- `operators::arms::join` meets its contract.
use native.Mathlib.Omega.{arith}
use borrow.Author.Rules.{rules}
use Rattle.arms.proofs.join.Goals as goal

pub join-requires : goal.join-requires
join-requires c =
    rw (c.stand-s.ensures, c.stand-other.ensures) (
      c.requires.table_stands.0.inside,
      c.requires.table_stands.1.inside,
      omega arith,
      omega arith,
      omega arith,
      omega arith,
      c.requires.table_stands.0.low,
      c.requires.table_stands.1.low,
      omega arith,
    )

pub returns : goal.returns
returns c =
    rw (c.stand-s.ensures, c.stand-other.ensures) at
    c.join.ensures
