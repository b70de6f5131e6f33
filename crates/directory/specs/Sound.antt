-- Operators that are sound for the tables before them (document 01, 'Plan operators'), as the code meets them.
--     TableStands dir top t   table t is entered, stands below cell `top`, and is 1 to 6 wide
--     wide dir t              the width of table t
--     made_of dir o ts, made_width dir o     the width of the table that operator o makes
--     SoundOf plan dir n o ts, SoundOperator plan dir n o   o's tables are among the first n, and it suits their widths
--     Served dir o            .. which the directory lists
use Rattle.std.specs.Prelude.{ℕ, ◌+◌, ◌*◌, ◌≤◌, ◌<◌, List, length, Option, Some, None}
use Rattle.tables.specs.Layout.{Inside}
use Rattle.plan_records.specs.declared.Operator.{Operator}
use Rattle.plans.specs.Accepted.{Suited}
use Rattle.plan_widths.specs.Widths as Widths
use Rattle.directory.specs.Directory.{stand_at, ListedTables}

pub record TableStands (dir : List ℕ) (top t : ℕ) : Type 0 where
  pub there : 3 * t + 3 ≤ length dir
  pub inside : Inside top (stand_at dir t)
  pub low : 1 ≤ (stand_at dir t).width
  pub high : (stand_at dir t).width ≤ 6

abbrev pub wide : List ℕ → ℕ → ℕ
wide dir t = (stand_at dir t).width

-- an operator that names no table is RT
unfoldable pub made_of : List ℕ → Operator → Option (ℕ × ℕ) → ℕ
made_of dir o None = 1
made_of dir o (Some (t, u)) = Widths.made_width o (wide dir t) (wide dir u)

unfoldable pub made_width : List ℕ → Operator → ℕ
made_width dir o = made_of dir o (Widths.tables_of o)

unfoldable pub SoundOf : List ℕ → List ℕ → ℕ → Operator → Option (ℕ × ℕ) → Type 0
SoundOf plan dir n o None = Unit {0}
SoundOf plan dir n o (Some (t, u)) = (t < n) × (u < n) × Suited plan o (wide dir t) (wide dir u)

unfoldable pub SoundOperator : List ℕ → List ℕ → ℕ → Operator → Type 0
SoundOperator plan dir n o = SoundOf plan dir n o (Widths.tables_of o)

unfoldable pub Served : List ℕ → Operator → Type 0
Served dir o = (plan : List ℕ) × (n : ℕ) × (top : ℕ) × ListedTables dir n top × SoundOperator plan dir n o
