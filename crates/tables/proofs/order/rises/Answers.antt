-- `tables::order::rises` meets its contract. The invariant: each row so far passes with the one before it.
use mathlib.Core.Path.{sym, ◌∙◌}
use native.Mathlib.Omega.{arith}
use Rattle.cells.specs.Cell.{before}
use Rattle.tables.specs.Layout.{table_at}
use Rattle.tables.specs.Order.{rises}
use Rattle.tables.proofs.Cells.{each_row, not_row}
use Rattle.tables.proofs.Reading.{length_table}
use Rattle.tables.proofs.order.rises.Goals as goal

pub returns-then-not-precedes : goal.returns-then-not-precedes
unfolding rises
returns-then-not-precedes c =
    let g = c.args in
    not_row before (table_at g.work.now g.s) g.c g.s.rows
    (length_table g.work.now g.s) c.loop-i.i (omega arith)
    (omega arith)
    (sym c.precedes.ensures ∙ c.if-not-precedes.true)

pub returns : goal.returns
unfolding rises
returns c =
    let g = c.args in
    each_row before (table_at g.work.now g.s) g.c g.s.rows (length_table g.work.now g.s)
    (λ j h k. c.loop-i.invariant j h (omega arith))
