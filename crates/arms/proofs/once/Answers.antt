-- `operators::arms::once` meets its contract.
use native.Mathlib.Omega.{arith}
use borrow.Author.Rules.{rules}
use Rattle.arms.proofs.once.Goals as goal

pub once-requires : goal.once-requires
once-requires c =
    rw c.stand-s.ensures (c.requires.0.inside, omega arith, omega arith, omega arith)

pub returns : goal.returns
returns c =
    rw c.stand-s.ensures at c.once.ensures
