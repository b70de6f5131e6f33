-- Tests and their facts.
--     le_or_lt a b      one of two orders holds
--     both_and          a conjunction that holds
--     or_cases, or_left, or_right     a disjunction that holds
use Prim.Native.Nat.{ℕ, ◌≤◌, ◌<◌}
use mathlib.Core.Path.{◌≡◌, refl}
use mathlib.Core.Logic.{◌⊎◌, inl, inr}
use mathlib.Core.Bool.{Bool, true, false, ◌&&◌, ◌||◌}
use native.Mathlib.Decide.{dec_le}
use native.Mathlib.Omega.{arith}

pub le_or_lt : (a b : ℕ) → (a ≤ b) ⊎ (b < a)
le_or_lt a b = by_dec (dec_le a b)
  where
    by_dec : Dec (a ≤ b) → (a ≤ b) ⊎ (b < a)
    by_dec (yes h) = inl h
    by_dec (no h) = inr (omega arith)

pub both_and : {a b : Bool} → a ≡ true → b ≡ true → (a && b) ≡ true
both_and {a} {b} p q = rw (p, q)

pub or_cases : (a b : Bool) → (a || b) ≡ true → (a ≡ true) ⊎ (b ≡ true)
or_cases true b h = inl refl
or_cases false b h = inr h

pub or_left : {a : Bool} (b : Bool) → a ≡ true → (a || b) ≡ true
or_left b p = rw p

pub or_right : (a : Bool) {b : Bool} → b ≡ true → (a || b) ≡ true
or_right true p = refl
or_right false p = p
