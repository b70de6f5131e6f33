-- A function of two sides (document 01, 'Query records', QO), by how many items each side has.
--     apply-..      what `apply` gives
--     sides-..      what the record leaves on the stack
use Rattle.std.specs.Prelude.{Result, Ok, Err}
use mathlib.Core.Logic.{◌⊎◌, inl, inr}
use Prim.Native.Nat.{ℕ, ◌+◌, ◌≤◌, ◌<◌}
use mathlib.Core.Path.{◌≡◌, refl, sym, ap, ap₂, ◌∙◌}
use mathlib.Core.List.{List, [], ◌∷◌}
use native.Mathlib.Omega.{arith}
use native.Mathlib.Nat.{add-zero}
use lib.IntN.{ℤ, pos}
use lib.ListN.{length, get_or}
use Rattle.laws.specs.Rows.{row, laid}
use Rattle.laws.proofs.Rows.{length_row, get_d_row, laid_nothing}
use Rattle.codes.specs.declared.Function.{Function}
use Rattle.codes.specs.declared.refusals.Stop.{Stop}
use Rattle.laws.specs.Attempt.{Attempt, fails, gives, attempt}
use Rattle.meaning.specs.World.{World}
use Rattle.meaning.specs.Meaning.{apply}
use Rattle.meaning.specs.Counted.{stand}
use Rattle.stack.specs.declared.Stood.{Stood}
use Rattle.stack.specs.declared.Pair.{Pair}
use Rattle.stack.specs.Stack.{paired, FitPair, EndsPair, At, Leaves}
use Rattle.stack_records.specs.Arms.{applied}
use Rattle.stack.proofs.Leaving.{leaves_laid, leaves_fails, leaves_gives, leaves_pair}

module _ (w : World) (f : Function) where
  apply_many : (xs ys : List ℤ) → 1 < length xs → apply w f xs ys ≡ fails
  unfolding apply
  apply_many [] ys h = absurd (omega arith)
  apply_many (x ∷ []) ys h = absurd (omega arith)
  apply_many (x ∷ u ∷ xs) ys h = refl

  apply_more : (xs ys : List ℤ) → 1 < length ys → apply w f xs ys ≡ fails
  unfolding apply
  apply_more xs [] h = absurd (omega arith)
  apply_more xs (y ∷ []) h = absurd (omega arith)
  apply_more [] (y ∷ z ∷ ys) h = refl
  apply_more (x ∷ []) (y ∷ z ∷ ys) h = refl
  apply_more (x ∷ u ∷ xs) (y ∷ z ∷ ys) h = refl

  apply_none : (xs ys : List ℤ) → length xs ≡ 0 → length ys ≤ 1 → apply w f xs ys ≡ gives []
  unfolding apply
  apply_none (x ∷ xs) ys e h = absurd (omega arith)
  apply_none [] [] e h = refl
  apply_none [] (y ∷ []) e h = refl
  apply_none [] (y ∷ z ∷ ys) e h = absurd (omega arith)

  apply_nothing : (xs ys : List ℤ) → length xs ≤ 1 → length ys ≡ 0 → apply w f xs ys ≡ gives []
  unfolding apply
  apply_nothing xs (y ∷ ys) h e = absurd (omega arith)
  apply_nothing [] [] h e = refl
  apply_nothing (x ∷ []) [] h e = refl
  apply_nothing (x ∷ u ∷ xs) [] h e = absurd (omega arith)

  apply_both :
      (xs ys : List ℤ) → length xs ≡ 1 → length ys ≡ 1 →
      apply w f xs ys ≡ attempt (w.arith f (get_or xs 0 (pos 0)) (get_or ys 0 (pos 0))) (λ z. gives (z ∷ []))
  unfolding apply
  apply_both [] ys e d = absurd (omega arith)
  apply_both (x ∷ u ∷ xs) ys e d = absurd (omega arith)
  apply_both (x ∷ []) [] e d = absurd (omega arith)
  apply_both (x ∷ []) (y ∷ z ∷ ys) e d = absurd (omega arith)
  apply_both (x ∷ []) (y ∷ []) e d = refl

-- what the record leaves behind a pair of sides
abbrev Sides : World → Function → ℕ → Pair → ℕ → ℕ → List ℤ → List ℤ → Result Stood Stop → Type 0
Sides w f at d top room before after r =
    Leaves top room (applied w at f (paired before top (Ok d))) (EndsPair (Ok d)) before after r

module _
    (w : World) (f : Function) (at top : ℕ) (before : List ℤ) (d : Pair) (g : FitPair top (length before) (Ok d))
    (room : ℕ) (t : FitPair top room (Ok d))
  where
    long : length (row before top d.first) ≡ d.first
    long = length_row before top d.first (omega arith)

    wide : length (row before (top + d.first) d.second) ≡ d.second
    wide = length_row before (top + d.first) d.second (omega arith)

    -- no item is left
    empty :
        apply w f (row before top d.first) (row before (top + d.first) d.second) ≡ gives [] →
        Sides w f at d top room before before (Ok (record { length = 0; count = d.count; next = d.next }))
    unfolding applied
    empty e =
        leaves_pair top room before before _ _ d
        (leaves_gives top room (At d.next) before at _ (λ xs. stand xs d.count) before _ [] e
        (leaves_laid top room (At d.next) before before _ [] (sym (laid_nothing before top)) (omega arith) refl
        (omega arith) t.1 (λ e h. h)))

    fail :
        apply w f (row before top d.first) (row before (top + d.first) d.second) ≡ fails →
        Sides w f at d top room before before (Err (Stop.Failed at))
    unfolding applied
    fail e =
        leaves_pair top room before before _ _ d
        (leaves_fails top room (At d.next) before at _ (λ xs. stand xs d.count) e)

    pub sides_many : (1 < d.first) ⊎ (1 < d.second) → Sides w f at d top room before before (Err (Stop.Failed at))
    sides_many (inl h) = fail (apply_many w f _ _ (omega (arith, long)))
    sides_many (inr h) = fail (apply_more w f _ _ (omega (arith, wide)))

    pub sides_none :
        d.first ≤ 1 → d.second ≤ 1 → (d.first ≡ 0) ⊎ (d.second ≡ 0) →
        Sides w f at d top room before before (Ok (record { length = 0; count = d.count; next = d.next }))
    sides_none h k (inl z) = empty (apply_none w f _ _ (long ∙ z) (omega (arith, wide)))
    sides_none h k (inr z) = empty (apply_nothing w f _ _ (omega (arith, long)) (wide ∙ z))

    -- one item on each side
    module _ (h : d.first ≡ 1) (k : d.second ≡ 1) (a : Attempt ℤ)
        (s : a ≡ w.arith f (get_or before top (pos 0)) (get_or before (top + 1) (pos 0))) where
      both :
          apply w f (row before top d.first) (row before (top + d.first) d.second)
          ≡ attempt a (λ z. gives (z ∷ []))
      both =
          apply_both w f _ _ (long ∙ h) (wide ∙ k)
          ∙ ap (λ (x : Attempt ℤ). attempt x (λ z. gives (z ∷ [])))
          (ap₂ (w.arith f)
          (get_d_row before top d.first 0 (pos 0) (omega arith)
          ∙ ap (λ (i : ℕ). get_or before i (pos 0)) (add-zero top))
          (get_d_row before (top + d.first) d.second 0 (pos 0) (omega arith)
          ∙ ap (λ (i : ℕ). get_or before i (pos 0)) (add-zero (top + d.first) ∙ ap (λ (i : ℕ). top + i) h))
          ∙ sym s)

      pub sides_fail : a ≡ fails → Sides w f at d top room before before (Err (Stop.Failed at))
      unfolding attempt
      sides_fail z = fail (both ∙ ap (λ (x : Attempt ℤ). attempt x (λ y. gives (y ∷ []))) z)

      pub sides_both :
          (after : List ℤ) (z : ℤ) → a ≡ gives z → after ≡ laid before top (z ∷ []) →
          Sides w f at d top room before after (Ok (record { length = 1; count = d.count; next = d.next }))
      unfolding applied attempt
      sides_both after z q p =
          leaves_pair top room before after _ _ d
          (leaves_gives top room (At d.next) before at _ (λ xs. stand xs d.count) after _ (z ∷ [])
          (both ∙ ap (λ (x : Attempt ℤ). attempt x (λ y. gives (y ∷ []))) q)
          (leaves_laid top room (At d.next) before after _ (z ∷ []) p (omega arith) refl (omega arith) t.1
          (λ e h. h)))
