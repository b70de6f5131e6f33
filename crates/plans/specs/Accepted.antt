-- What an accepted plan gives to whoever walks over it again, operator by operator.
--     Suited bs o w v         an accepted operator o of tables of widths w and v: fields and columns in their ranges
--     Fitting bs ws o t u x   o names tables t and u that are there, suits their widths, and makes a table of width x
--     Ahead bs done rest at   the plan is the operators `done`, which end at `at`, and then `rest`
--     placed bs at o w        an operator with its offset and its width
--     Turn ..                 one more: what was read at `at` is the first of `rest`, and the walk goes on behind it
use Rattle.std.specs.Prelude.{ℕ, ◌+◌, ◌≤◌, ◌<◌, ◌≡◌, true, ◌&&◌, ◌||◌, List, [], ◌∷◌, ◌++◌, eqb, ltb, length, get_or}
use Rattle.cells.specs.Cell.{held}
use Rattle.laws.specs.Attempt.{gives, reads}
use Rattle.codes.specs.Codes.{test_name}
use Rattle.meaning.specs.Plan.{Placed, plain_in, columns_at, columns, width_of, plan_read}
use Rattle.theorems.specs.PlanFields.{Own, WidthFits}
use Rattle.plan_records.specs.declared.Operator.{Operator}
use Rattle.plan_records.specs.declared.Decoded.{Decoded}
use Rattle.plan_records.specs.Decoded.{operator_of, ColumnsStand}
use Rattle.plan_widths.specs.Widths.{made_width}
use Rattle.plans.specs.Walk.{Walk}
use Rattle.theorems.specs.PlanRead.{widths_of}

unfoldable pub Suited : List ℕ → Operator → ℕ → ℕ → Type 0
Suited bs Operator.One w v = Unit {0}
Suited bs (Operator.Attach t z) w v = (w + 1 ≤ 6) × (plain_in (held z) ≡ true)
Suited bs (Operator.Project t n from) w v =
    (columns w (columns_at bs from n) ≡ true) × (from + n ≤ length bs) × (1 ≤ n) × (n ≤ 6)
Suited bs (Operator.Union t u) w v = w ≡ v
Suited bs (Operator.Minus t u) w v = w ≡ v
Suited bs (Operator.Select t c) w v = c < w
Suited bs (Operator.Join t c u d) w v = (c < w) × (d < v) × (w + v ≤ 6)
Suited bs (Operator.Number t p n from) w v =
    ((eqb p 255 || ltb p w) && columns w (columns_at bs from n) ≡ true)
    × (from + n ≤ length bs) × (1 ≤ n) × (n ≤ 2) × (w + 1 ≤ 6)
Suited bs (Operator.Apply t f c d) w v = (c < w) × (d < w) × (w + 1 ≤ 6)
Suited bs (Operator.Value t c) w v = (c < w) × (w + 1 ≤ 6)
Suited bs (Operator.Counts t c) w v = c < w
Suited bs (Operator.Truths t) w v = w ≡ 3
Suited bs (Operator.Once t c) w v = c < w
Suited bs (Operator.Step t x y) w v = (w ≡ 2) × (test_name y < 65536)
Suited bs (Operator.Root t k) w v = (w + 1 ≤ 6) × (1 ≤ k) × (k ≤ 255)

pub record Fitting (bs ws : List ℕ) (o : Operator) (t u x : ℕ) : Type 0 where
  pub first : t < length ws
  pub second : u < length ws
  pub suited : Suited bs o (get_or ws t 0) (get_or ws u 0)
  pub made : x ≡ made_width o (get_or ws t 0) (get_or ws u 0)

pub record Ahead (bs : List ℕ) (done rest : List Placed) (at : ℕ) : Type 0 where
  pub walk : Walk bs done at
  pub whole : plan_read bs ≡ reads (done ++ rest)

abbrev pub placed : List ℕ → ℕ → Operator → ℕ → Placed
placed bs at o w = record { at = at; op = operator_of bs o; width = w }

pub record Turn (bs : List ℕ) (done rest : List Placed) (at : ℕ) (f : Decoded) : Type 0 where
  pub width : ℕ
  pub after : List Placed
  pub rest_is : rest ≡ placed bs at f.operator width ∷ after
  pub few : length done < 512
  pub stands : ColumnsStand bs f.operator
  pub own : Own (operator_of bs f.operator)
  pub fits : width_of (widths_of done) (operator_of bs f.operator) ≡ gives width
  pub wide : WidthFits width
  pub further : at < f.next
  pub within : f.next ≤ length bs
  pub on : Ahead bs (done ++ (placed bs at f.operator width ∷ [])) after f.next
