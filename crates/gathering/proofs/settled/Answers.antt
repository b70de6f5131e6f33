-- `gathering::settled` meets its contract.
use mathlib.Core.Path.{sym, ap, ◌∙◌}
use native.Mathlib.Omega.{arith}
use Rattle.tables.specs.Layout.{Inside}
use Rattle.tables.specs.Laying.{succeeds}
use Rattle.gathering.specs.Gathered.{column_of}
use Rattle.gathering.specs.declared.Gather.TheVariants.{Truth}
use Rattle.meaning.specs.World.{world_of}
use Rattle.gathering.proofs.Turns.{turn_no}
use Rattle.gathering.proofs.Passing.{some_judged, truth_turn}
use Rattle.gathering.proofs.settled.Goals as goal

pub opens-requires : goal.opens-requires
opens-requires c =
    record { inside = (c.requires.inside.0, omega arith, c.requires.inside.2); up_value = c.requires.up_value }

pub returns-then-not-opens : goal.returns-then-not-opens
unfolding column_of succeeds
returns-then-not-opens c =
    λ d.
    ap succeeds (sym (turn_no Truth (world_of d) _ _ (sym c.opens.ensures ∙ c.if-not-opens.true)))

pub part-requires : goal.part-requires
part-requires c =
    record { inside = (c.requires.inside.0, omega arith, c.requires.inside.2); up_value = c.requires.up_value; i_value = sym c.opens.ensures ∙ c.if-not-opens.false }

pub group_truth-requires : goal.group_truth-requires
unfolding Inside
group_truth-requires c =
    (omega (arith, c.part.ensures.0), c.part.ensures.1 ∙ c.requires.inside.1, c.part.ensures.2)

pub returns : goal.returns
returns c =
    λ d.
    c.is_some.ensures
    ∙ some_judged c.group_truth.result
    ∙ ap succeeds c.group_truth.ensures
    ∙ truth_turn d _ _ _ (sym c.opens.ensures ∙ c.if-not-opens.false) c.part.ensures.3 c.part.ensures.4
