-- `searching::search::first` meets its contract: one look at the row above `from` says on which side of it to search.
use mathlib.Core.Path.{refl, sym, ◌∙◌}
use native.Mathlib.Omega.{arith}
use mir.Facts.{to_z-of_z}
use Rattle.searching.proofs.Passing.{front_none, front_to, back_more, back_end}
use Rattle.tables.proofs.Reading.{length_rows}
use Rattle.searching.proofs.Narrowing.{front_cell}
use Rattle.searching.proofs.search.first.Goals as goal

pub search-requires : goal.search-requires
search-requires c =
    record {
      inside = (c.requires.inside.0, omega arith, omega arith, omega arith);
      d_value = c.requires.d_value;
      front = (front_none _ _ _, back_end _ _ _ _ _ _ refl);
    }

pub returns-then-from-lt1 : goal.returns-then-from-lt1
returns-then-from-lt1 c =
    (omega arith, front_cell _ _ (to_z-of_z c.ranges.x) _ _ _ c.search.ensures.front_2.0)

pub passes-requires : goal.passes-requires
passes-requires c =
    (c.requires.inside.0, omega arith, omega arith)

pub search-requires-then-passes : goal.search-requires-then-passes
search-requires-then-passes c =
    record {
      inside = (c.requires.inside.0, omega arith, omega arith, omega arith);
      d_value = c.requires.d_value;
      front = (
        front_to _ _ _ c.requires.d_value _ (omega (arith, length_rows c.args.work.now c.args.u c.args.d)) _
            (omega arith)
            (sym c.passes.ensures ∙ c.if-passes.true),
        back_end _ _ _ _ _ _ refl,
      );
    }

pub returns-then-passes : goal.returns-then-passes
returns-then-passes c = (
  omega arith,
  front_cell _ _ (to_z-of_z c.ranges.x) _ _ _ c.search-then-passes.ensures.front_2.0,
)

pub search-requires-2 : goal.search-requires-2
search-requires-2 c =
    record {
      inside = (c.requires.inside.0, omega arith, omega arith, omega arith);
      d_value = c.requires.d_value;
      front = (
        front_none _ _ _,
        back_more _ _ _ c.requires.d_value _ (omega (arith, length_rows c.args.work.now c.args.u c.args.d))
            (sym c.passes.ensures ∙ c.if-passes.false),
      );
    }

pub returns : goal.returns
returns c = (
  omega arith,
  front_cell _ _ (to_z-of_z c.ranges.x) _ _ _ c.search-2.ensures.front_2.0,
)
