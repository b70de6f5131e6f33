-- What it means that operators run one after another do what the typed rules do.
--     MachineRan w os n ts rows   the operators run on tables ts add a table each; table n then holds the rows
--     Simulates w os n ts a    they run so to the rows that a gives, and fail where a fails; none of them meets a tie
--     HasFree ts q e vars      the tables hold what each variable that is free in q holds
--     Faithful w q             where tables hold a loop, and what is free in q as the loop's iterations have it, q's
--                              operators simulate the typed rules
--     MachineEnds w q t        running the plan of q gives tables, the last of which holds the rows t
--     SameRun w q              plan and query both fail, or the items of the last table are the query's items in order
use Rattle.std.specs.Prelude.{ℕ, ◌≡◌, List, [], ◌++◌, map, true, ℤ, length}
use Rattle.laws.specs.Attempt.{Attempt, fails, gives}
use Rattle.meaning.specs.World.{World}
use Rattle.meaning.specs.Query.{Query, free}
use Rattle.meaning.specs.Meaning.{Env, eval}
use Rattle.meaning.specs.Plan.{Op}
use Rattle.meaning.specs.Operators.{Table, column}
use Rattle.meaning.specs.Run.{run}
use Rattle.meaning.specs.Calls.{last_table}
use Rattle.meaning.specs.Translation.{Tables, tr, plan}
use Rattle.agreement.specs.Typed.{Triple, Loop, Vars, sem}
use Rattle.agreement.specs.Families.{Mask, Loops, HoldsVars}
use Rattle.agreement.specs.Encoded.{encode, HasRows, HasLoop}
use Rattle.agreement.specs.Tieless.{Tieless}

pub record MachineRan (w : World) (os : List Op) (n : ℕ) (ts : List Table) (rows : List Triple) : Type 0 where
  pub made : List Table
  pub runs : run w os ts ≡ gives (ts ++ made)
  pub long : length made ≡ length os
  pub has : HasRows (ts ++ made) n rows

pub record Simulates (w : World) (os : List Op) (n : ℕ) (ts : List Table) (a : Attempt (List Triple)) : Type 0 where
  pub gave : (rows : List Triple) → a ≡ gives rows → MachineRan w os n ts rows
  pub failed : a ≡ fails → run w os ts ≡ fails
  pub apart : Tieless w os ts

abbrev pub HasFree : List Table → Query → Tables → Vars → Type 0
HasFree ts q e vars = (v : ℕ) → free v q ≡ true → HasRows ts (e v) (vars v)

abbrev pub Faithful : World → Query → Type 0
Faithful w q =
    (n l : ℕ) (e : Tables) (ts : List Table) (loop : Loop) (vars : Vars) (m : Mask) (ρ : ℕ → Env)
    → Loops loop m → HoldsVars m ρ vars → length ts ≡ n → HasLoop ts l loop
    → HasFree ts q e vars → Simulates w (tr q n l e).ops (tr q n l e).result ts (sem w q loop vars)

pub record MachineEnds (w : World) (q : Query) (t : List Triple) : Type 0 where
  pub tables : List Table
  pub runs : run w (plan q) [] ≡ gives tables
  pub last : last_table tables ≡ map encode t

pub data SameRun (w : World) (q : Query) : Type 0 where
  both_give : (xs : List ℤ) (ts : List Table) → run w (plan q) [] ≡ gives ts → column (last_table ts) 2 ≡ xs
      → eval w (λ v. []) q ≡ gives xs → SameRun w q
  both_fail : run w (plan q) [] ≡ fails → eval w (λ v. []) q ≡ fails → SameRun w q
