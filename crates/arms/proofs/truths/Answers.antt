-- `operators::arms::truths` meets its contract.
use native.Mathlib.Omega.{arith}
use borrow.Author.Rules.{rules}
use Rattle.arms.proofs.truths.Goals as goal

pub truths-requires : goal.truths-requires
truths-requires c =
    rw c.stand-s.ensures (c.requires.table_stands.0.inside, omega arith, omega arith, omega arith, c.requires.t_value)

pub returns : goal.returns
returns c =
    rw c.stand-s.ensures at c.truths.ensures
