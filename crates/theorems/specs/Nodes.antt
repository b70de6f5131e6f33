-- What a step and a root give (document 01, 'Query records'), and the laws of a world that plans rest on.
--     IsNode c y          y is the cell of a node of the catalogue
--     Before a b          cell a stands before cell b
--     Nodes c ys          ys are the cells of nodes of the catalogue by rising rank, and so each once
--     IsRoot c y          y is the cell of a node of level 0
--     Lawful w            the laws of a world: truth of nothing, a step from nothing, a step's result rises
use Rattle.std.specs.Prelude.{ℕ, ◌-◌, ◌<◌, ◌≡◌, List, [], map, true, false, ℤ}
use Rattle.codes.specs.declared.Axis.{Axis}
use Rattle.codes.specs.declared.Test.{Test}
use Rattle.cells.specs.Cell.{node_cell, before}
use Rattle.laws.specs.Lists.{All, Rising}
use Rattle.laws.specs.Attempt.{gives}
use Rattle.meaning.specs.Catalogue.{Catalogue}
use Rattle.meaning.specs.World.{World, truth, step}

abbrev pub IsNode : Catalogue → ℤ → Type 0
IsNode c y = (r : ℕ) × (y ≡ node_cell r) × (r < c.rows)

abbrev pub Before : ℤ → ℤ → Type 0
Before a b = before a b ≡ true

pub record Nodes (c : Catalogue) (ys : List ℤ) : Type 0 where
  pub ranks : List ℕ
  pub cells : ys ≡ map node_cell ranks
  pub inside : All (λ r. r < c.rows) ranks
  pub rise : Rising (λ r s. r < s) ranks

pub record IsRoot (c : Catalogue) (y : ℤ) : Type 0 where
  pub rank : ℕ
  pub cell : y ≡ node_cell rank
  pub inside : rank < c.rows
  pub top : c.level rank ≡ 0

pub record Lawful (w : World) : Type 0 where
  pub truth_nothing : w.truth [] ≡ gives false
  pub step_nothing : (axis : Axis) (test : Test) → w.step axis test [] ≡ gives []
  pub step_rises : (axis : Axis) (test : Test) (xs ys : List ℤ) → w.step axis test xs ≡ gives ys → Rising Before ys
