-- `groups::steps` meets its contract: it fails where some cell of column 1 is no node, and lays the rows where each
-- is one.
use mathlib.Core.Path.{refl, sym, ◌∙◌}
use native.Mathlib.Omega.{arith}
use Rattle.meaning.specs.Catalogue.{catalogue_of}
use Rattle.tables.specs.Layout.{table_at, Inside, Owes}
use Rattle.tables.proofs.Promise.{owes_is}
use Rattle.gathering.specs.Gathered.{Asks, column_of}
use Rattle.gathering.proofs.Turns.{settled_yes, failed_no}
use Rattle.stepping.proofs.Nodes.{rows_of_lem}
use Rattle.gathering.proofs.Gathering.{steps_is, steps_succeed}
use Rattle.groups.proofs.steps.Goals as goal

pub all_nodes-requires : goal.all_nodes-requires
unfolding Inside
all_nodes-requires c =
    (omega arith, c.requires.inside.3)

pub returns-then-not-all_nodes : goal.returns-then-not-all_nodes
unfolding Owes
returns-then-not-all_nodes c =
    let d = catalogue_of c.args.doc.now c.args.rows in
    record {
      made_is =
          steps_is _ _ _ _
          ∙ failed_no _
          (steps_succeed d c.args.axis c.args.test (table_at c.args.work.now c.args.s)
          ∙ sym (c.all_nodes.ensures d (rows_of_lem _ _)) ∙ c.if-not-all_nodes.true);
      long = refl;
    }

pub climbs-up-requires : goal.climbs-up-requires
unfolding Inside
climbs-up-requires c =
    (omega arith, omega arith)

pub each_group-requires : goal.each_group-requires
unfolding Asks column_of
each_group-requires c =
    let d = catalogue_of c.args.doc.now c.args.rows in
    record {
      inside = (c.requires.inside.0, c.requires.inside.1, c.requires.inside.2);
      asks = (c.requires.inside.3, c.requires.ready);
      up_value = c.climbs-up.ensures;
      settled = settled_yes _
          (steps_succeed d c.args.axis c.args.test
          (table_at c.args.work.now c.args.s)
          ∙ sym (c.all_nodes.ensures d (rows_of_lem _ _)) ∙ c.if-not-all_nodes.false);
    }

pub returns : goal.returns
returns c =
    owes_is _ _ _ _ _ _ (steps_is _ _ _ _) c.each_group.ensures
