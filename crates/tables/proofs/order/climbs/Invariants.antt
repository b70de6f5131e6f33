-- `tables::order::climbs` meets its contract. The invariant: each row so far passes with the one before it.
use Prim.Native.Nat.{ℕ, ◌-◌, ◌≤◌, ◌<◌}
use mathlib.Core.Path.{◌≡◌}
use mathlib.Core.Bool.{true, not}
use Rattle.cells.specs.Cell.{before}
use Rattle.tables.specs.Layout.{table_at}
use Rattle.tables.specs.Order.{cell_at}
use Rattle.tables.proofs.order.climbs.Given as goal

abbrev pub invariant-loop-i : goal.invariant-loop-i
invariant-loop-i l =
    let t = table_at l.work l.s in
    (j : ℕ) → 1 ≤ j → j < l.i → not (before (cell_at t l.c j) (cell_at t l.c (j - 1))) ≡ true
