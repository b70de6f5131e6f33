-- `groups::truths` meets its contract: it fails where some group has no truth, and lays the rows where each has one.
use mathlib.Core.Path.{refl, sym, ◌∙◌}
use native.Mathlib.Omega.{arith}
use Rattle.meaning.specs.Catalogue.{catalogue_of}
use Rattle.tables.specs.Layout.{Inside, Owes}
use Rattle.tables.proofs.Promise.{owes_is}
use Rattle.gathering.specs.Gathered.{Asks, column_of}
use Rattle.gathering.proofs.Turns.{settled_yes, failed_no}
use Rattle.gathering.proofs.Gathering.{truths_is}
use Rattle.groups.proofs.truths.Goals as goal

pub climbs-up-requires : goal.climbs-up-requires
unfolding Inside
climbs-up-requires c =
    (omega arith, omega arith)

pub settles-requires : goal.settles-requires
unfolding Inside
settles-requires c =
    record { inside = (omega arith, c.requires.4); up_value = c.climbs-up.ensures }

pub returns-then-not-settles : goal.returns-then-not-settles
unfolding Owes
returns-then-not-settles c =
    record {
      made_is =
          truths_is _ _
          ∙ failed_no _ (sym (c.settles.ensures (catalogue_of c.args.doc.now c.args.rows))
          ∙ c.if-not-settles.true);
      long = refl;
    }

pub slice_bounds-each_group-end : goal.slice_bounds-each_group-end
slice_bounds-each_group-end c =
    refl

pub slice_bounds-each_group-end-2 : goal.slice_bounds-each_group-end-2
slice_bounds-each_group-end-2 c =
    refl

pub each_group-requires : goal.each_group-requires
unfolding Asks column_of
each_group-requires c =
    record {
      inside = (c.requires.0, c.requires.1, c.requires.2);
      asks = c.requires.4;
      up_value = c.climbs-up.ensures;
      settled = settled_yes _
          (sym (c.settles.ensures (catalogue_of c.args.doc.now c.args.rows))
          ∙ c.if-not-settles.false);
    }

pub returns : goal.returns
returns c =
    owes_is _ _ _ _ _ _ (truths_is _ _) c.each_group.ensures
