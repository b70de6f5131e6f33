-- `operators::arms::counts` meets its contract.
use native.Mathlib.Omega.{arith}
use borrow.Author.Rules.{rules}
use Rattle.arms.proofs.counts.Goals as goal

pub counts-requires : goal.counts-requires
counts-requires c =
    rw c.stand-s.ensures (c.requires.0.inside, omega arith, omega arith, omega arith, omega arith)

pub returns : goal.returns
returns c =
    rw c.stand-s.ensures at c.counts.ensures
