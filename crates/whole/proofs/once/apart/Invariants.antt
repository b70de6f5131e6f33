-- `whole::once::apart` meets its contract. The invariant: the rows from row i on hold no cell twice exactly where all
-- do.
use mathlib.Core.Path.{◌≡◌}
use lib.ListN.{drop}
use Rattle.meaning.specs.Operators.{column, once}
use Rattle.tables.specs.Layout.{table_at}
use Rattle.whole.proofs.once.apart.Given as goal

abbrev pub invariant-loop-i : goal.invariant-loop-i
invariant-loop-i l =
    let zs = column (table_at l.work l.s) l.c in
    once (drop l.i zs) ≡ once zs
