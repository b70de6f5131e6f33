-- Taking apart what succeeded: an attempt or a reading that gives a value gave one at each step.
--     attempt_apart      an attempt that goes on and gives: the first part gave, and so did the rest
--     provided_apart     the test held
--     refusing_apart     the attempt gave
--     cond_all           what holds of both sides of a choice holds of the choice
use Prim.Native.Nat.{ℕ}
use mathlib.Core.Path.{◌≡◌, refl, ap}
use mathlib.Core.Bool.{Bool, true, false, cond}
use Rattle.laws.specs.Attempt.{Attempt, fails, gives, attempt, provided, reads, refusing}
use Rattle.laws.proofs.Outcomes.{fails_gives, refuses_reads, reads_same}

module _ {A : Type 0} where
  pub provided_apart : (t : Bool) (r : Attempt A) (y : A) → provided t r ≡ gives y → (t ≡ true) × (r ≡ gives y)
  unfolding provided
  provided_apart true r y e = (refl, e)
  provided_apart false r y e = absurd (fails_gives y e)

  pub refusing_apart : (n p : ℕ) (r : Attempt A) (y : A) → refusing n p r ≡ reads y → r ≡ gives y
  unfolding refusing
  refusing_apart n p fails y e = absurd (refuses_reads n p y e)
  refusing_apart n p (gives x) y e = ap gives (reads_same e)

  pub cond_all : (P : A → Type 0) (t : Bool) (x y : A) → P x → P y → P (cond t x y)
  cond_all P true x y p q = p
  cond_all P false x y p q = q

pub attempt_apart :
    {A B : Type 0} (a : Attempt A) (f : A → Attempt B) (y : B) → attempt a f ≡ gives y →
    (x : A) × (a ≡ gives x) × (f x ≡ gives y)
unfolding attempt
attempt_apart fails f y e = absurd (fails_gives y e)
attempt_apart (gives x) f y e = (x, refl, e)
