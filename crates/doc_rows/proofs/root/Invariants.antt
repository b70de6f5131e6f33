-- `root` meets its contract. The invariant of its loop: of the roots from r on, the one that `left` others stand before
-- is the one that was asked for.
use Prim.Native.Nat.{◌-◌}
use mathlib.Core.Path.{◌≡◌}
use Rattle.meaning.specs.Catalogue.{catalogue_of}
use Rattle.meaning.specs.World.{roots, member}
use Rattle.doc_rows.specs.Ranks.{roots_from}
use Rattle.doc_rows.proofs.root.Given as goal

abbrev pub invariant-loop-r : goal.invariant-loop-r
invariant-loop-r l =
    member (roots_from (catalogue_of l.doc l.rows) l.r (l.rows - l.r)) l.left
    ≡ member (roots (catalogue_of l.doc l.rows)) (l.k - 1)
