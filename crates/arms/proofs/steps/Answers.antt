-- `operators::arms::steps` meets its contract.
use native.Mathlib.Omega.{arith}
use borrow.Author.Rules.{rules}
use Rattle.arms.proofs.steps.Goals as goal

pub steps-requires : goal.steps-requires
steps-requires c =
    rw c.stand-s.ensures (record {
      inside = (c.requires.table_stands.0.inside, omega arith, omega arith, c.requires.table_stands.3);
      ready = c.requires.ready;
    })

pub returns : goal.returns
returns c =
    rw c.stand-s.ensures at c.steps.ensures
