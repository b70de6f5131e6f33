-- `tables::order::occurs` meets its contract. The invariant: no row so far holds the cell.
use Prim.Native.Nat.{ℕ, ◌<◌}
use mathlib.Core.Path.{◌≡◌}
use mathlib.Core.Bool.{false}
use Rattle.cells.specs.Cell.{same}
use Rattle.tables.specs.Layout.{table_at}
use Rattle.tables.specs.Order.{cell_at}
use Rattle.tables.proofs.order.occurs.Given as goal

abbrev pub invariant-loop-i : goal.invariant-loop-i
invariant-loop-i l =
    let t = table_at l.work l.s in
    (j : ℕ) → j < l.i → same l.cell (cell_at t l.c j) ≡ false
