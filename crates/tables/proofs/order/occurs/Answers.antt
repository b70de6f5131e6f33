-- `tables::order::occurs` meets its contract. The invariant: no row so far holds the cell.
use mathlib.Core.Path.{sym, ap, ◌∙◌}
use native.Mathlib.Omega.{arith}
use mir.Facts.{to_z-of_z}
use Rattle.cells.specs.Cell.{same}
use Rattle.tables.specs.Layout.{table_at}
use Rattle.tables.specs.Order.{cell_at}
use Rattle.tables.proofs.Cells.{some_row, no_row}
use Rattle.tables.proofs.Reading.{length_table}
use Rattle.tables.proofs.order.occurs.Goals as goal

pub returns-then-holds : goal.returns-then-holds
returns-then-holds c =
    let g = c.args in
    some_row (same g.cell) (table_at g.work.now g.s) g.c c.loop-i.i g.s.rows (length_table g.work.now g.s) (omega arith)
    (ap (λ z. same z (cell_at (table_at g.work.now g.s) g.c c.loop-i.i)) (sym (to_z-of_z c.ranges.cell))
    ∙ sym c.holds.ensures ∙ c.if-holds.true)

pub returns : goal.returns
returns c =
    let g = c.args in
    no_row (same g.cell) (table_at g.work.now g.s) g.c g.s.rows (length_table g.work.now g.s)
    (λ j h.
    ap (λ z. same z (cell_at (table_at g.work.now g.s) g.c j)) (sym (to_z-of_z c.ranges.cell))
    ∙ c.loop-i.invariant j (omega arith))
