-- `searching::search::search` meets its contract. The invariant: the rows before lo are passed, those from hi on are
-- not. The measure is how many rows lie between.
use Prim.Native.Nat.{◌-◌, ◌≤◌}
use Rattle.meaning.specs.Operators.{column}
use Rattle.tables.specs.Layout.{table_at}
use Rattle.searching.specs.Narrowed.{Front, Back}
use Rattle.searching.proofs.search.search.Given as goal

abbrev pub invariant-loop-lo : goal.invariant-loop-lo
invariant-loop-lo l =
    let zs = column (table_at l.work l.u) l.d in
    (l.from ≤ l.lo) × (l.lo ≤ l.hi) × (l.hi ≤ l.to) × Front l.equal l.x zs l.lo × Back l.equal l.x zs l.hi

abbrev pub decreases-loop-lo : goal.decreases-loop-lo
decreases-loop-lo l =
    l.hi - l.lo
