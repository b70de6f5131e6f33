-- `tables::order::climbs` meets its contract. The invariant: each row so far passes with the one before it.
use mathlib.Core.Path.{sym, ap, ◌∙◌}
use mathlib.Core.Bool.{not}
use native.Mathlib.Omega.{arith}
use Rattle.cells.specs.Cell.{before}
use Rattle.tables.specs.Layout.{table_at}
use Rattle.tables.specs.Order.{climbs}
use Rattle.tables.proofs.Cells.{each_row, not_row}
use Rattle.tables.proofs.Reading.{length_table}
use Rattle.tables.proofs.order.climbs.Goals as goal

pub returns-then-falls : goal.returns-then-falls
unfolding climbs
returns-then-falls c =
    let g = c.args in
    not_row (λ x y. not (before y x)) (table_at g.work.now g.s) g.c g.s.rows
    (length_table g.work.now g.s) c.loop-i.i (omega arith)
    (omega arith)
    (ap not (sym c.precedes-falls.ensures ∙ c.if-falls.true))

pub returns : goal.returns
unfolding climbs
returns c =
    let g = c.args in
    each_row (λ x y. not (before y x)) (table_at g.work.now g.s) g.c g.s.rows (length_table g.work.now g.s)
    (λ j h k. c.loop-i.invariant j h (omega arith))
