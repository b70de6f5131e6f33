-- `operators` meets its contract. The loop's invariant: what is left of the plan, after the operators done, gives what
-- the whole gives, and the first n lent bytes are the widths of their tables. The measure is what is left of the bytes.
use Prim.Native.Nat.{◌-◌}
use lib.ListN.{length}
use Rattle.plans.specs.Walk.{Checking}
use Rattle.plans.proofs.operators.Given as goal

abbrev pub invariant-loop-at : goal.invariant-loop-at
invariant-loop-at l =
    Checking l.plan l.widths l.at l.n l.last

abbrev pub decreases-loop-at : goal.decreases-loop-at
decreases-loop-at l =
    length l.plan - l.at
