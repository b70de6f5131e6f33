-- `rows::project` meets its contract. The invariant: the first i of the named columns are laid.
use mathlib.Core.Path.{◌≡◌}
use mathlib.Core.List.{map}
use Rattle.laws.specs.Rows.{row, laid}
use Rattle.meaning.specs.Operators.{cell}
use Rattle.meaning.specs.Plan.{columns_at}
use Rattle.rows.proofs.project.Given as goal

abbrev pub invariant-loop-i : goal.invariant-loop-i
invariant-loop-i l =
    l.work ≡ laid l.initial.work l.at (map (cell (row l.initial.work l.a l.w)) (columns_at l.plan l.k l.i))
