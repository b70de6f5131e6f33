-- `joining::pairs::join_row` meets its contract. The invariant: the rows of s before row i are joined and laid
-- (`Laying`).
use Prim.Native.Nat.{◌+◌, ◌-◌, ◌*◌}
use Rattle.laws.specs.Rows.{row, rows_at}
use Rattle.laws.specs.Attempt.{each}
use Rattle.joining.specs.Joined.{join_one}
use Rattle.tables.specs.Laying.{Laying}
use Rattle.joining.proofs.pairs.join_row.Given as goal

abbrev pub invariant-loop-i : goal.invariant-loop-i
invariant-loop-i l =
    let xs = l.initial.work in
    let f = join_one (row xs l.a l.w) l.k l.d in
    Laying l.room l.at (l.w + l.v) f (each f (rows_at xs l.s.at l.s.rows l.v)) xs
    (rows_at xs (l.s.at + l.i * l.v) (l.s.rows - l.i) l.v) l.work l.top l.n
