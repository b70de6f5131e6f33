-- The invariant of `walk`: what is left of the plan, on the tables that stand, gives what the whole gives, and what is
-- lent stays as long. The measure is how many tables more there may be.
use Prim.Native.Nat.{◌-◌}
use mathlib.Core.Path.{◌≡◌}
use lib.ListN.{length}
use Rattle.meaning.specs.Catalogue.{catalogue_of}
use Rattle.meaning.specs.World.{world_of}
use Rattle.running.specs.Leaving.{operators_of}
use Rattle.running.proofs.Going.{Going}
use Rattle.running.proofs.walk.Given as goal

abbrev pub invariant-loop-at : goal.invariant-loop-at
invariant-loop-at l =
    Going (world_of (catalogue_of l.doc l.rows)) l.room (length l.initial.work) l.plan (operators_of l.plan) l.work
    l.directory l.at l.top.tables l.top.cells
    × (length l.directory ≡ length l.initial.directory)
    × (length l.order ≡ length l.initial.order)
    × (length l.aside ≡ length l.initial.aside)
    × (length l.from ≡ length l.initial.from)
    × (length l.to ≡ length l.initial.to)

abbrev pub decreases-loop-at : goal.decreases-loop-at
decreases-loop-at l = 512 - l.top.tables
