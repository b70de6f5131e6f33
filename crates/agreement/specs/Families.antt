-- What a table of rows (iteration, place, item) says of the iterations of a loop.
--     Family                 a sequence of items for each iteration
--     Mask                   some iterations
--     placed i n xs          the rows of iteration i with items xs at places n + 1, n + 2, ..
--     Represents t s         in table t the rows of each iteration i, in row order, are s i at places 1, 2, ..
--     Loops l m              the loop table l holds each iteration of m once, and no other
--     Outside m s            s is empty outside the iterations of m
--     HoldsVars m ρ vars     each variable's table represents what ρ says of it in the iterations of m, else nothing
--     Agree m f run          run is a table that represents what f gives in the iterations of m, or f fails in one of
--                            them and run fails
--     Agrees ρ f run         run agrees with f under every loop and all variables that hold ρ
--     SameItems run items    both fail, or run is the table of exactly these items
use Rattle.std.specs.Prelude.{ℕ, suc, ◌≡◌, List, [], ◌∷◌, Bool, true, false, cond, eqb, ℤ}
use Rattle.laws.specs.Lists.{filter}
use Rattle.laws.specs.Keyed.{within}
use Rattle.laws.specs.Attempt.{Attempt, fails, gives}
use Rattle.meaning.specs.Meaning.{Env}
use Rattle.agreement.specs.Typed.{Triple, row, Loop, Vars, Sem, iter_of}

abbrev pub Family : Type 0
Family = ℕ → List ℤ

abbrev pub Mask : Type 0
Mask = ℕ → Bool

unfoldable pub placed : ℕ → ℕ → List ℤ → List Triple
placed i n [] = []
placed i n (z ∷ zs) = row i (suc n) z ∷ placed i (suc n) zs

abbrev pub Represents : List Triple → Family → Type 0
Represents t s = (i : ℕ) → within iter_of i t ≡ placed i 0 (s i)

abbrev pub Loops : Loop → Mask → Type 0
Loops l m = (i : ℕ) → filter (eqb i) l ≡ cond (m i) (i ∷ []) []

abbrev pub Outside : Mask → Family → Type 0
Outside m s = (i : ℕ) → m i ≡ false → s i ≡ []

abbrev pub HoldsVars : Mask → (ℕ → Env) → Vars → Type 0
HoldsVars m ρ vars = (v : ℕ) → Represents (vars v) (λ i. cond (m i) (ρ i v) [])

pub data Agree (m : Mask) (f : ℕ → Attempt (List ℤ)) (run : Attempt (List Triple)) : Type 0 where
  agrees : (t : List Triple) (s : Family) → run ≡ gives t → ((i : ℕ) → m i ≡ true → f i ≡ gives (s i)) → Outside m s
      → Represents t s → Agree m f run
  failing : (i : ℕ) → m i ≡ true → f i ≡ fails → run ≡ fails → Agree m f run

-- under every loop and all variables that hold ρ
abbrev pub Agrees : (ℕ → Env) → (ℕ → Attempt (List ℤ)) → Sem → Type 0
Agrees ρ f run = (l : Loop) (m : Mask) (vars : Vars) → Loops l m → HoldsVars m ρ vars → Agree m f (run l vars)

-- the whole plan against the whole query: the plan's table has exactly the query's items, placed in iteration 1
pub data SameItems (run : Attempt (List Triple)) (items : Attempt (List ℤ)) : Type 0 where
  both_give : (xs : List ℤ) → run ≡ gives (placed 1 0 xs) → items ≡ gives xs → SameItems run items
  both_fail : run ≡ fails → items ≡ fails → SameItems run items
