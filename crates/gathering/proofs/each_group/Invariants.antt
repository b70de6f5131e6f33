-- The invariant of `gathering::each_group`: what is made of the groups that open before row i is laid (`Lays`), and the
-- marks stay as many.
use mathlib.Core.Path.{◌≡◌}
use lib.ListN.{length}
use Rattle.meaning.specs.Catalogue.{catalogue_of}
use Rattle.meaning.specs.World.{world_of}
use Rattle.tables.specs.Layout.{table_at}
use Rattle.gathering.proofs.Passing.{Lays}
use Rattle.gathering.proofs.each_group.Given as goal

abbrev pub invariant-loop-i : goal.invariant-loop-i
invariant-loop-i l =
    (length l.from ≡ length l.initial.from)
    × (length l.to ≡ length l.initial.to)
    × Lays l.room l.at l.gather (world_of (catalogue_of l.doc l.rows)) (table_at l.initial.work l.s) l.initial.work l.i
    l.work l.top l.n
