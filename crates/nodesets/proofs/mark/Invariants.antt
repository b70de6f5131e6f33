-- `mark` meets its contract. The invariant: the cells so far are nodes, and exactly their ranks are marked.
use mathlib.Core.Path.{◌≡◌}
use lib.ListN.{length, take}
use Rattle.std.specs.Prelude.{Ok}
use Rattle.meaning.specs.Catalogue.{Catalogue}
use Rattle.nodesets.specs.Nodes.{FromAll}
use Rattle.nodesets.proofs.mark.Given as goal

abbrev pub invariant-loop-cell : goal.invariant-loop-cell
invariant-loop-cell l =
    (length l.marks ≡ length l.initial.marks)
    × ((c : Catalogue) → c.rows ≡ l.rows → FromAll c (take l.cell-index l.cells) (Ok tt) l.marks)
