-- `rowwise::each::each_row` meets its contract. The invariant: row i begins at a, and what the task makes of the rows
-- before it is laid (`Laying`).
use Prim.Native.Nat.{◌+◌, ◌-◌, ◌*◌}
use mathlib.Core.Path.{◌≡◌}
use Rattle.laws.specs.Rows.{rows_at}
use Rattle.laws.specs.Attempt.{each}
use Rattle.meaning.specs.Catalogue.{catalogue_of}
use Rattle.rowwise.specs.Tasks.{made}
use Rattle.tables.specs.Laying.{Laying}
use Rattle.rowwise.proofs.each.each_row.Given as goal

abbrev pub invariant-loop-i : goal.invariant-loop-i
invariant-loop-i l =
    let xs = l.initial.work in
    let f = made l.plan (catalogue_of l.doc l.rows) xs l.task in
    (l.a ≡ l.fn.s.at + l.i * l.w)
    × Laying l.room l.at l.step f (each f (rows_at xs l.fn.s.at l.fn.s.rows l.w)) xs
    (rows_at xs (l.fn.s.at + l.i * l.w) (l.fn.s.rows - l.i) l.w) l.work l.top l.n
