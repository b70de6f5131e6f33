-- `members::run` meets its contract. The invariant: the rows before row i hold the cell, and what is left
-- gives what the whole gives.
use Prim.Native.Nat.{◌+◌}
use mathlib.Core.Path.{◌≡◌}
use lib.ListN.{drop}
use Rattle.cells.specs.Cell.{same}
use Rattle.meaning.specs.Operators.{column}
use Rattle.tables.specs.Layout.{table_at}
use Rattle.members.specs.Grouped.{in_front, leading}
use Rattle.members.proofs.run.Given as goal

abbrev pub invariant-loop-i : goal.invariant-loop-i
invariant-loop-i l =
    let t = table_at l.work l.s in
    l.i + leading (same l.x) (drop l.i (column t l.c)) ≡ leading (same (in_front t l.c)) (column t l.c)
