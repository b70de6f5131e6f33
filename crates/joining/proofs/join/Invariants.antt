-- `joining::join` meets its contract. The invariant: the rows of s before row i are joined and laid (`Laying`), and
-- `from` is a place among u's rows.
use Prim.Native.Nat.{◌+◌, ◌-◌, ◌*◌, ◌≤◌}
use Rattle.laws.specs.Rows.{rows_at}
use Rattle.laws.specs.Attempt.{each}
use Rattle.tables.specs.Laying.{Laying}
use Rattle.joining.specs.Joined.{joined_row}
use Rattle.joining.proofs.join.Given as goal

abbrev pub invariant-loop-i : goal.invariant-loop-i
invariant-loop-i l =
    let xs = l.initial.work in
    let f = joined_row xs l.u l.c l.d in
    (l.from ≤ l.u.rows)
    × Laying l.room l.at (l.w + l.v) f (each f (rows_at xs l.s.at l.s.rows l.w)) xs
    (rows_at xs (l.s.at + l.i * l.w) (l.s.rows - l.i) l.w) l.work l.top l.n
