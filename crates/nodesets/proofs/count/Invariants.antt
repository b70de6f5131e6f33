-- `marks::count` meets its contract. The invariant: n is the number of marked ranks below v.
use Prim.Native.Nat.{◌≤◌}
use mathlib.Core.Path.{◌≡◌}
use lib.ListN.{length}
use Rattle.nodesets.specs.Nodes.{ranks}
use Rattle.nodesets.proofs.count.Given as goal

abbrev pub invariant-loop-v : goal.invariant-loop-v
invariant-loop-v l =
    (l.v ≤ l.rows) × (l.n ≡ length (ranks l.v l.marks))
