-- Operators that work once for each iteration that has rows (RE, RX).
--     Worked s d h run       run is a table with the rows that h makes for each iteration that has items, or h fails
--                            in one of these and run fails
--     worked                 `each` over a table's iterations is one of the two
use Prim.Native.Nat.{ℕ}
use mathlib.Core.Path.{◌≡◌, refl, ap, ◌∙◌, subst}
use mathlib.Core.List.{List, [], ◌∷◌, append-nil}
use mathlib.Core.Bool.{Bool, true, cond}
use lib.Dec.{eqb}
use lib.IntN.{ℤ}
use borrow.Author.Tests.{eq-eqb}
use Rattle.laws.specs.Lists.{filter, gather, All}
use Rattle.laws.specs.Keyed.{within, numbers_in, filled}
use Rattle.laws.proofs.Lists.{all_kept}
use Rattle.laws.proofs.Filters.{in_filter, in_none}
use Rattle.laws.proofs.Booleans.{by_cases}
use Rattle.laws.proofs.Groups.{numbers_in_at, within_gather}
use Rattle.laws.specs.Attempt.{Attempt, fails, gives, each}
use Rattle.agreement.specs.Typed.{Triple, iter_of}
use Rattle.agreement.specs.Families.{Family, placed, Represents}
use Rattle.agreement.proofs.Attempts.{got, EachOutcome, all_give, one_fails, outcome}

pub data Worked {B : Type 0} (s : Family) (d : B → ℕ) (h : ℕ → Attempt (List B)) (run : Attempt (List B)) : Type 0
  where
    all_work : (t : List B) → run ≡ gives t
        → ((i : ℕ) → filled (s i) ≡ true → h i ≡ gives (got (h i)))
        → ((i : ℕ) → within d i t ≡ cond (filled (s i)) (got (h i)) [])
        → Worked s d h run
    one_does_not : (i : ℕ) → filled (s i) ≡ true → h i ≡ fails → run ≡ fails → Worked s d h run

filled_placed : (i : ℕ) (xs : List ℤ) → filled (placed i 0 xs) ≡ filled xs
unfolding filled placed
filled_placed i [] = refl
filled_placed i (x ∷ xs) = refl

module _ {B : Type 0} (s : Family) (d : B → ℕ) (h : ℕ → Attempt (List B))
    (own : (i : ℕ) → All (λ x. i ≡ d x) (got (h i)))
    (a : List Triple) (rep : Represents a s) where
  numbers_at : (i : ℕ) → filter (eqb i) (numbers_in iter_of a) ≡ cond (filled (s i)) (i ∷ []) []
  numbers_at i =
      numbers_in_at iter_of i a ∙ ap (λ (b : Bool). cond b (i ∷ []) []) (ap filled (rep i) ∙ filled_placed i (s i))

  pub worked : Worked s d h (each h (numbers_in iter_of a))
  unfolding within gather
  worked = go (outcome h (numbers_in iter_of a))
    where
      go : EachOutcome h (numbers_in iter_of a) → Worked s d h (each h (numbers_in iter_of a))
      go (all_give g e) =
          all_work (gather (λ i. got (h i)) (numbers_in iter_of a)) e
          (λ i f.
          (subst (All (λ j. h j ≡ gives (got (h j)))) (numbers_at i ∙ ap (λ (b : Bool). cond b (i ∷ []) []) f)
          (all_kept (eqb i) (λ j. h j ≡ gives (got (h j))) (numbers_in iter_of a) g)).0)
          (λ i.
          within_gather (λ j. j) d (λ j. got (h j)) own i (numbers_in iter_of a)
          ∙ ap (gather (λ j. got (h j))) (numbers_at i)
          ∙ by_cases (filled (s i)) (λ f. rw f (append-nil (got (h i)))) (λ f. rw f))
      go (one_fails i k e r) =
          one_does_not i
          (by_cases (filled (s i)) (λ f. f)
          (λ f.
          in_none i (filter (eqb i) (numbers_in iter_of a)) (numbers_at i ∙ ap (λ (b : Bool). cond b (i ∷ []) []) f)
          (in_filter (eqb i) (numbers_in iter_of a) i k (eq-eqb i i refl))))
          e r
