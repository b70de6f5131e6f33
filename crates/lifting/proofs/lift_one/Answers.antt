-- `lift_one` meets its contract: a join and a projection.
use native.Mathlib.Omega.{arith}
use Rattle.writing.specs.Listed.{columns_of}
use Rattle.adding.specs.Ruled.{operator_of}
use Rattle.adding.proofs.Adding.{wrote_then}
use Rattle.lifting.proofs.Lifting.{lifts_one}
use Rattle.lifting.proofs.lift_one.Goals as goal

pub returns : goal.returns
unfolding operator_of columns_of
returns c =
    let a = c.args in
    rw c.hold-row.ensures
    (lifts_one a.tables a.m _ a.v _ _ a.pen _ (omega (arith, c.well_formed.1.1.0))
    (wrote_then c.add-p.ensures c.add-q.ensures))
