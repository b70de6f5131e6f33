-- `cells::truth_cell` meets its contract.
use mathlib.Core.Path.{sym, ap}
use Rattle.cells.specs.Cell.{truth_cell}
use Rattle.cells.proofs.truth_cell.Goals as goal

pub returns-then-b : goal.returns-then-b
returns-then-b c =
    ap truth_cell (sym c.if-b.true)

pub returns-else-b : goal.returns-else-b
returns-else-b c =
    ap truth_cell (sym c.if-b.false)
