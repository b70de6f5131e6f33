-- The invariant of `stepping::all_nodes`: the rows from row i on hold nodes only exactly where all do.
use mathlib.Core.Path.{◌≡◌}
use lib.ListN.{drop}
use Rattle.laws.specs.Lists.{all}
use Rattle.meaning.specs.Catalogue.{Catalogue}
use Rattle.meaning.specs.Operators.{column}
use Rattle.tables.specs.Layout.{table_at}
use Rattle.stepping.specs.Marking.{is_node}
use Rattle.stepping.proofs.all_nodes.Given as goal

abbrev pub invariant-loop-i : goal.invariant-loop-i
invariant-loop-i l =
    let xs = column (table_at l.work l.s) 1 in
    (d : Catalogue) → d.rows ≡ l.rows → all (is_node d) (drop l.i xs) ≡ all (is_node d) xs
