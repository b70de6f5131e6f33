-- `marks::write` meets its contract. The invariant: the n marked ranks below v stand as cells from `at` on, and nothing
-- else has changed.
use Prim.Native.Nat.{◌≤◌}
use mathlib.Core.Path.{◌≡◌}
use mathlib.Core.List.{map}
use lib.ListN.{length}
use Rattle.cells.specs.Cell.{node_cell}
use Rattle.nodesets.specs.Nodes.{ListedNodes}
use Rattle.nodesets.proofs.write.Given as goal

abbrev pub invariant-loop-v : goal.invariant-loop-v
invariant-loop-v l =
    (l.v ≤ l.rows)
    × (length l.work ≡ length l.initial.work)
    × ListedNodes (map node_cell) l.marks l.v l.n l.at l.initial.work l.work
