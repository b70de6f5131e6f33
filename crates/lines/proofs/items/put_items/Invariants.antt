-- `lines::items::put_items` meets its contract. The invariant: the lines of the items so far stand there.
use Prim.Native.Nat.{◌+◌, ◌*◌, ◌≤◌}
use lib.ListN.{take}
use Rattle.laws.specs.Lists.{gather}
use Rattle.lines.specs.Text.{item_line}
use Rattle.pen.specs.Penned.{Pens}
use Rattle.lines.proofs.items.put_items.Given as goal

abbrev pub invariant-loop-cell : goal.invariant-loop-cell
invariant-loop-cell l =
    (l.end ≤ l.at + 32 * l.cell-index)
    × Pens l.at (gather item_line (take l.cell-index l.cells)) l.initial.text l.text l.end
