-- `lines::copy_items` meets its contract. The invariant: the items of the first i rows are copied.
use mathlib.Core.Path.{◌≡◌}
use Rattle.laws.specs.Rows.{rows_at, laid}
use Rattle.meaning.specs.Operators.{column}
use lib.ListN.{length}
use Rattle.lines.proofs.copy_items.Given as goal

abbrev pub invariant-loop-i : goal.invariant-loop-i
invariant-loop-i l =
    (l.kept ≡ laid l.initial.kept 0 (column (rows_at l.work l.start l.i 3) 2)) × (length l.kept ≡ length l.initial.kept)
