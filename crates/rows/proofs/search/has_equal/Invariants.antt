-- `rows::search::has_equal` meets its contract. The search: from the row at b on, some row is equal exactly where one
-- of the whole table is. The comparison: from cell i on, the two rows are equal exactly where they are. The measures
-- are the rows and the cells that are left.
use Prim.Native.Nat.{◌+◌, ◌-◌, ◌*◌, ◌≤◌}
use mathlib.Core.Path.{◌≡◌}
use lib.ListN.{length}
use Rattle.laws.specs.Lists.{any}
use Rattle.laws.specs.Rows.{row, rows_at}
use Rattle.meaning.specs.Operators.{same_row}
use Rattle.rows.specs.Comparing.{rest_same}
use Rattle.rows.proofs.search.has_equal.Given as goal

abbrev pub invariant-loop-i : goal.invariant-loop-i
invariant-loop-i l =
    (l.i ≤ l.w) × (rest_same l.work l.a l.b l.w l.i ≡ same_row (row l.work l.a l.w) (row l.work l.b l.w))

abbrev pub decreases-loop-i : goal.decreases-loop-i
decreases-loop-i l =
    l.w - l.i

abbrev pub invariant-search : goal.invariant-search
invariant-search l =
    let p = same_row (row l.work l.a l.w) in
    (l.b + l.left * l.w ≤ length l.work)
    × (any p (rows_at l.work l.b l.left l.w) ≡ any p (rows_at l.work l.initial.b l.initial.left l.w))

abbrev pub decreases-search : goal.decreases-search
decreases-search l =
    l.left
