-- `put_row` meets its contract. The invariant: the first i cells stand in their columns.
use Prim.Native.Nat.{◌*◌, ◌≤◌}
use lib.ListN.{take}
use Rattle.laws.specs.Lists.{gather}
use Rattle.pen.specs.Penned.{Pens}
use Rattle.shown_rows.specs.Rows.{column}
use Rattle.shown_rows.proofs.put_row.Given as goal

abbrev pub invariant-loop-cell : goal.invariant-loop-cell
invariant-loop-cell l =
    (l.end ≤ 37 * l.cell-index)
    × Pens 0 (gather column (take l.cell-index l.row)) l.initial.text l.text l.end
