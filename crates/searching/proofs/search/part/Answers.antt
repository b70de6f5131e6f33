-- `searching::search::part` meets its contract: rows before the part are before x, rows behind it after x.
use mathlib.Core.Path.{refl, sym, ◌∙◌}
use native.Mathlib.Omega.{arith}
use mir.Facts.{to_z-of_z}
use Rattle.searching.proofs.Passing.{front_equal, back_end}
use Rattle.searching.proofs.Narrowing.{narrows_whole, narrows_part, front_cell, back_cell}
use Rattle.searching.proofs.search.part.Goals as goal

pub returns-then-not-climbing : goal.returns-then-not-climbing
returns-then-not-climbing c =
    narrows_whole _ _ _ _

pub first-start-requires : goal.first-start-requires
first-start-requires c =
    record { inside = c.requires.inside; d_value = sym c.requires.climbing_value ∙ c.if-not-climbing.false }

pub search-end-requires : goal.search-end-requires
search-end-requires c =
    record {
      inside = (c.requires.inside.0, omega arith, omega arith, omega arith);
      d_value = sym c.requires.climbing_value ∙ c.if-not-climbing.false;
      front = (front_equal _ _ _ c.first-start.ensures.1, back_end _ _ _ _ _ _ refl);
    }

pub returns : goal.returns
returns c =
    let e = to_z-of_z c.ranges.x in
    narrows_part _ _ _ _ _ _ (omega arith) (omega arith) (omega arith)
    (front_cell _ _ e _ _ _ c.first-start.ensures.1)
    (back_cell _ _ e _ _ _ c.search-end.ensures.front_2.1)
