-- The fields of an operator that is read (document 01, 'Plan operators').
--     EndsWithin bs at x   the operator x .0 stands from at to x.1, within the bytes, its own fields in their ranges
use Rattle.std.specs.Prelude.{ℕ, ◌≤◌, ◌<◌, List, length}
use Rattle.meaning.specs.Plan.{Op}
use Rattle.theorems.specs.PlanFields.{Own}

pub record EndsWithin (bs : List ℕ) (at : ℕ) (x : Op × ℕ) : Type 0 where
  pub after : at < x.1
  pub within : x.1 ≤ length bs
  pub own : Own x.0
