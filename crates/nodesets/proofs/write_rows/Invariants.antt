-- `marks::write_rows` meets its contract. The invariant: the rows of the n marked ranks below v stand from `at` on, and
-- nothing else has changed.
use Prim.Native.Nat.{◌≤◌}
use mathlib.Core.Path.{◌≡◌}
use lib.ListN.{length}
use Rattle.nodesets.specs.Nodes.{rows_of, ListedNodes}
use Rattle.nodesets.proofs.write_rows.Given as goal

abbrev pub invariant-loop-v : goal.invariant-loop-v
invariant-loop-v l =
    (l.v ≤ l.rows)
    × (length l.work ≡ length l.initial.work)
    × ListedNodes (rows_of l.cell) l.marks l.v l.n l.at l.initial.work l.work
