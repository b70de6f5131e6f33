-- The invariant of `gathering::settles`: the turns from row i on succeed exactly where all do.
use mathlib.Core.Path.{◌≡◌}
use Rattle.laws.specs.Lists.{all}
use Rattle.meaning.specs.Catalogue.{Catalogue}
use Rattle.meaning.specs.World.{world_of}
use Rattle.tables.specs.Layout.{table_at}
use Rattle.tables.specs.Laying.{succeeds}
use Rattle.gathering.specs.declared.Gather.TheVariants.{Truth}
use Rattle.gathering.specs.Gathered.{whole}
use Rattle.gathering.proofs.Turns.{rest}
use Rattle.gathering.proofs.settles.Given as goal

abbrev pub invariant-loop-i : goal.invariant-loop-i
invariant-loop-i l =
    (d : Catalogue) →
    all succeeds (rest Truth (world_of d) (table_at l.work l.s) l.i)
    ≡ succeeds (whole Truth (world_of d) (table_at l.work l.s))
