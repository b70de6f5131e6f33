-- `groups::counts` meets its contract: counting never fails.
use mathlib.Core.Path.{refl}
use native.Mathlib.Omega.{arith}
use Rattle.tables.specs.Layout.{Inside}
use Rattle.tables.proofs.Promise.{owes_is}
use Rattle.gathering.specs.Gathered.{Asks, column_of}
use Rattle.gathering.proofs.Gathering.{counts_is, counts_settled}
use Rattle.groups.proofs.counts.Goals as goal

pub climbs-up-requires : goal.climbs-up-requires
unfolding Inside
climbs-up-requires c =
    (omega arith, omega arith)

pub slice_bounds-each_group-end : goal.slice_bounds-each_group-end
slice_bounds-each_group-end c =
    refl

pub slice_bounds-each_group-end-2 : goal.slice_bounds-each_group-end-2
slice_bounds-each_group-end-2 c =
    refl

pub slice_bounds-each_group-end-3 : goal.slice_bounds-each_group-end-3
slice_bounds-each_group-end-3 c =
    refl

pub each_group-requires : goal.each_group-requires
unfolding Asks column_of
each_group-requires c =
    record { inside = (c.requires.0, c.requires.1, c.requires.2); asks = (c.requires.4, c.requires.3); up_value = c.climbs-up.ensures; settled = counts_settled _ _ _ }

pub returns : goal.returns
returns c =
    owes_is _ _ _ _ _ _ (counts_is _ _ _) c.each_group.ensures
