-- The invariant of `stepping::mark_group`: the iteration's rows before row i hold nodes, and exactly these are marked
-- (`Marking`).
use mathlib.Core.Path.{◌≡◌}
use lib.ListN.{length, drop}
use Rattle.meaning.specs.Catalogue.{Catalogue}
use Rattle.meaning.specs.Operators.{column, group_of}
use Rattle.tables.specs.Layout.{table_at}
use Rattle.members.specs.Grouped.{in_front}
use Rattle.stepping.proofs.Nodes.{Marking}
use Rattle.stepping.proofs.mark_group.Given as goal

abbrev pub invariant-loop-i : goal.invariant-loop-i
invariant-loop-i l =
    let t = table_at l.work l.s in
    (length l.marks ≡ length l.initial.marks)
    × ((d : Catalogue) → d.rows ≡ l.rows →
    Marking d (column (group_of t 0 (in_front t 0)) 1) (column (group_of (drop l.i t) 0 l.iteration.0) 1) l.marks)
