-- The plan check, and how far a walk over a plan came (document 01, 'Plan operators', 'The eight refusals').
--     checked c          the answer of the plan check: the number of operators, or refusal 5 and its place
--     plan_count bs       what the definitions answer: how many operators the plan has, or the refusal
--     last_at ps          the offset of the last of operators ps, 0 where there is none
--     Walk bs done at    the operators `done` stand before at, and what is left of the bytes gives what the whole gives
--     Checking ..        the same, with the state of the plan check: n widths in ws, the last operator at `last`
use Rattle.std.specs.Prelude.{ℕ, ◌-◌, ◌≤◌, ◌≡◌, List, [], ◌∷◌, length, take, Result, Ok, Err}
use Rattle.codes.specs.Refusals.{number_of}
use Rattle.codes.specs.declared.refusals.Refusal.{Refusal}
use Rattle.laws.specs.Attempt.{Reading, refuses, reads, reading}
use Rattle.meaning.specs.Plan.{Placed, last_of, plan_from, plan_read}
use Rattle.theorems.specs.PlanFields.{WidthFits}
use Rattle.theorems.specs.PlanRead.{widths_of}
use Rattle.theorems.specs.PlanWidths.{Every}

unfoldable pub checked : Result ℕ Refusal → Reading ℕ
checked (Ok n) = reads n
checked (Err r) = refuses (number_of r.reason) r.place

unfoldable pub plan_count : List ℕ → Reading ℕ
plan_count bs = reading (plan_read bs) (λ ps. reads (length ps))

unfoldable pub last_at : List Placed → ℕ
last_at [] = 0
last_at (p ∷ ps) = (last_of p ps).at

pub record Walk (bs : List ℕ) (done : List Placed) (at : ℕ) : Type 0 where
  pub few : length done ≤ 512
  pub each : Every WidthFits (widths_of done)
  pub rest : plan_from (512 - length done) bs done at ≡ plan_read bs

pub record Checking (bs ws : List ℕ) (at n last : ℕ) : Type 0 where
  pub done : List Placed
  pub walk : Walk bs done at
  pub count : length done ≡ n
  pub long : length ws ≡ 512
  pub widths : widths_of done ≡ take n ws
  pub latest : last_at done ≡ last
