-- `counting::count_rows` meets its contract. The invariant: n counts the rows of the group before row i, and
-- what is left gives what the whole gives.
use Prim.Native.Nat.{◌+◌, ◌≤◌}
use mathlib.Core.Path.{◌≡◌}
use lib.ListN.{length, drop}
use Rattle.meaning.specs.Operators.{group_of}
use Rattle.tables.specs.Layout.{table_at}
use Rattle.members.specs.Grouped.{in_front}
use Rattle.counting.proofs.count_rows.Given as goal

abbrev pub invariant-loop-i : goal.invariant-loop-i
invariant-loop-i l =
    let t = table_at l.work l.s in
    (l.n ≤ l.i)
    × (l.n + length (group_of (drop l.i t) l.c l.x) ≡ length (group_of t l.c (in_front t l.c)))
