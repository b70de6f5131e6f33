-- A chain, one turn after another.
--     chain_off                 no operator of the chain comes
--     chain_on                  one turn, then what the readers of shorter texts give
--     again_zero, again_suc     those readers, but of a comparison, which comes once
--     chain_stuck               a turn that is stuck
--     chain_none, chain_more    a turn that is read, with no text left for another and with some
use Prim.Native.Nat.{ℕ, zero, suc, ◌-◌}
use mathlib.Core.Path.{◌≡◌, refl, ◌∙◌}
use mathlib.Core.List.{List, ◌++◌}
use mathlib.Core.Bool.{Bool, false}
use native.Mathlib.Omega.{arith}
use borrow.Author.Tests.{ne_eqb, eq-eqb}
use Rattle.parsing.specs.declared.Ends.{Ends}
use Rattle.parsing.specs.declared.Next.{Next}
use Rattle.parsing.specs.Reader.{Res, ok, stuck, then, Went, went, operation, kind_of, tightness, Readers, readers}
use Rattle.typing.specs.declared.Chain.{Chain}
use Rattle.typing.specs.declared.Chain.TheVariants.{Items, Sides, Terms, Factors}
use Rattle.typing.specs.Cycle.{level_of, side_of, again_of, one_turn, more_of}

module _ (ch : Chain) (rd : Readers) (d : ℕ) (e : Ends) (c : Bool) (xs : List ℕ) (n : Next) (t : List ℕ) where
  pub chain_off : (tightness n ≡ level_of ch → ⊥)
      → more_of ch rd d e c xs n t ≡ ok (record { made = xs; next = n }) t
  chain_off h = rw (ne_eqb (tightness n) (level_of ch) h)

  turn_by : (m : Res Went)
      → then m (λ w. again_of ch rd d e c (operation n ++ (xs ++ w.made)) w.next)
      ≡ then (then m (λ w. went (operation n ++ (xs ++ w.made)) w.next))
      (λ w. again_of ch rd d e c w.made w.next)
  turn_by (ok w u) = refl
  turn_by (stuck u) = refl

  pub chain_on : tightness n ≡ level_of ch
      → more_of ch rd d e c xs n t
      ≡ then (one_turn ch rd d e c xs n t) (λ w. again_of ch rd d e c w.made w.next)
  chain_on h = rw (eq-eqb (tightness n) (level_of ch) h) (turn_by (side_of ch rd d e c false (kind_of n) t))

module _ (d : ℕ) (e : Ends) (c : Bool) (xs : List ℕ) (n : Next) (t : List ℕ) where
  none_zero : (ch : Chain) → (level_of ch ≡ 1 → ⊥) → again_of ch (readers 0) d e c xs n t ≡ stuck t
  none_zero Items h = refl
  none_zero Sides h = absurd (h refl)
  none_zero Terms h = refl
  none_zero Factors h = refl

  pub again_zero : (ch : Chain) (l : ℕ) → (level_of ch ≡ 1 → ⊥) → l ≡ 0
      → again_of ch (readers l) d e c xs n t ≡ stuck t
  again_zero ch zero h z = none_zero ch h
  again_zero ch (suc l) h z = absurd (omega arith)

  one_suc : (ch : Chain) (l : ℕ) → (level_of ch ≡ 1 → ⊥)
      → again_of ch (readers (suc l)) d e c xs n t ≡ more_of ch (readers l) d e c xs n t
  one_suc Items l h = refl
  one_suc Sides l h = absurd (h refl)
  one_suc Terms l h = refl
  one_suc Factors l h = refl

  pub again_suc : (ch : Chain) (l : ℕ) → (level_of ch ≡ 1 → ⊥) → (l ≡ 0 → ⊥)
      → again_of ch (readers l) d e c xs n t ≡ more_of ch (readers (l - 1)) d e c xs n t
  again_suc ch zero h z = absurd (z refl)
  again_suc ch (suc l) h z = let e : suc l - 1 ≡ l = omega arith in rw e (one_suc ch l h)

-- A turn of the loop, where its operator is one of the chain's
module _ (d : ℕ) (e : Ends) (c : Bool) (ch : Chain) (l : ℕ) (xs : List ℕ) (n : Next) (t : List ℕ)
    (on : tightness n ≡ level_of ch) where
  pub chain_stuck : {u : List ℕ} → one_turn ch (readers l) d e c xs n t ≡ stuck u
      → more_of ch (readers l) d e c xs n t ≡ stuck u
  chain_stuck h = chain_on ch (readers l) d e c xs n t on ∙ rw h

  chain_past : (w : Went) {u : List ℕ} → one_turn ch (readers l) d e c xs n t ≡ ok w u
      → more_of ch (readers l) d e c xs n t ≡ again_of ch (readers l) d e c w.made w.next u
  chain_past w h = chain_on ch (readers l) d e c xs n t on ∙ rw h

  pub chain_none : (level_of ch ≡ 1 → ⊥) → l ≡ 0 → (w : Went) {u : List ℕ}
      → one_turn ch (readers l) d e c xs n t ≡ ok w u
      → more_of ch (readers l) d e c xs n t ≡ stuck u
  chain_none h z w {u} o = chain_past w o ∙ again_zero d e c w.made w.next u ch l h z

  pub chain_more : (level_of ch ≡ 1 → ⊥) → (l ≡ 0 → ⊥) → (w : Went) {u : List ℕ}
      → one_turn ch (readers l) d e c xs n t ≡ ok w u
      → more_of ch (readers l) d e c xs n t ≡ more_of ch (readers (l - 1)) d e c w.made w.next u
  chain_more h z w {u} o = chain_past w o ∙ again_suc d e c w.made w.next u ch l h z
