-- Tests on numbers that come out alike.
--     leb_same, eqb_same    two facts that follow from one another are the same test
--     is_true               a test that passes is true
use mathlib.Core.Path.{◌≡◌, refl, sym, ◌∙◌}
use mathlib.Core.Bool.{Bool, true, false}
use Prim.Native.Nat.{ℕ, ◌≤◌, ◌<◌}
use native.Mathlib.Nat.{lt_irrefl, lt_of_lt_of_le}
use native.Mathlib.Omega.{arith}
use lib.Dec.{T, leb, eqb}
use borrow.Author.Tests.{le-leb, lt-leb, leb-true, leb-false, eq-eqb, ne_eqb, eqb-true, eqb-false}

pub is_true : (t : Bool) → T t → t ≡ true
is_true true h = refl
is_true false h = absurd h

module _ (a b c d : ℕ) where
  pub leb_same : (a ≤ b → c ≤ d) → (c ≤ d → a ≤ b) → leb a b ≡ leb c d
  leb_same f g = by_test (leb a b) refl
    where
      over : b < a → d < c
      over h =
          let k : ¬ (c ≤ d) = λ u. lt_irrefl b (lt_of_lt_of_le h (g u)) in
          omega arith

      by_test : (t : Bool) → leb a b ≡ t → leb a b ≡ leb c d
      by_test true e = e ∙ sym (le-leb c d (f (leb-true a b e)))
      by_test false e = e ∙ sym (lt-leb c d (over (leb-false a b e)))

  pub eqb_same : (a ≡ b → c ≡ d) → (c ≡ d → a ≡ b) → eqb a b ≡ eqb c d
  eqb_same f g = by_test (eqb a b) refl
    where
      by_test : (t : Bool) → eqb a b ≡ t → eqb a b ≡ eqb c d
      by_test true e = e ∙ sym (eq-eqb c d (f (eqb-true a b e)))
      by_test false e = e ∙ sym (ne_eqb c d (λ h. eqb-false a b e (g h)))
