-- `rows_sound` meets its contract. The invariant of its loop: the rows before r passed, so that the checks from r on,
-- of as many rows as may still be there, give what the whole gives.
use Prim.Native.Nat.{◌≤◌, ◌*◌, ◌-◌}
use mathlib.Core.Path.{◌≡◌}
use lib.ListN.{length}
use Rattle.meaning.specs.Catalogue.{rows_sound}
use Rattle.catalogue.proofs.rows_sound.Given as goal

abbrev pub invariant-loop-r : goal.invariant-loop-r
invariant-loop-r l =
    (10 * l.r ≤ length l.doc) × (rows_sound (2048 - l.r) l.doc l.r l.most ≡ rows_sound 2048 l.doc 0 0)
