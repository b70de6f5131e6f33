-- Lists in which no two members are equal, in a sense that a test gives.
--     any_none                 where no member passes, none does
--     untied_mapped            members as other members
--     untied_less              a test that holds of fewer pairs
--     untied_append            two lists, no member of the first equal to one of the second
--     untied_rising            members in an order that tells them apart
--     untied_parts             equal members are of one part, and no part has two
use Prim.Native.Nat.{ℕ}
use mathlib.Core.Path.{◌≡◌, refl, sym, ◌∙◌, subst}
use mathlib.Core.List.{List, [], ◌∷◌, ◌++◌, map}
use mathlib.Core.Bool.{Bool, true, false, ◌||◌}
use lib.Dec.{eqb}
use borrow.Author.Tests.{eq-eqb}
use Rattle.laws.specs.Lists.{filter, any, All, Rising}
use Rattle.laws.specs.Keyed.{within}
use Rattle.laws.proofs.Booleans.{by_cases, clash}
use Rattle.laws.proofs.Lists.{all_map}
use Rattle.laws.proofs.Filters.{filter_yes, filter_no}
use Rattle.agreement.specs.Tieless.{Untied}
use Rattle.agreement.proofs.EncodedLists.{any_through}

-- neither of two
or_neither : (a b : Bool) → (a || b) ≡ false → (a ≡ false) × (b ≡ false)
or_neither true b e = clash refl e
or_neither false b e = (refl, e)

module _ {A : Type 0} where
  pub any_none : (p : A → Bool) (xs : List A) → All (λ x. p x ≡ false) xs → any p xs ≡ false
  unfolding any
  any_none p [] h = refl
  any_none p (x ∷ xs) h = rw (h.0, any_none p xs h.1)

  pub none_of : (p : A → Bool) (xs : List A) → any p xs ≡ false → All (λ x. p x ≡ false) xs
  unfolding any
  none_of p [] e = tt
  none_of p (x ∷ xs) e = let h = or_neither (p x) (any p xs) e in (h.0, none_of p xs h.1)

  pub untied_less : (p q : A → A → Bool) → ((x y : A) → p x y ≡ true → q x y ≡ true) → (xs : List A)
      → Untied q xs → Untied p xs
  untied_less p q sub [] h = tt
  untied_less p q sub (x ∷ xs) h = (
    any_none (p x) xs
        (all_map xs (λ y e. by_cases (p x y) (λ d. clash (sub x y d) e) (λ d. d)) (none_of (q x) xs h.0)),
    untied_less p q sub xs h.1,
  )

  pub untied_append : (p : A → A → Bool) (xs ys : List A) → Untied p xs → Untied p ys
      → All (λ x. All (λ y. p x y ≡ false) ys) xs → Untied p (xs ++ ys)
  unfolding any
  untied_append p [] ys h k l = k
  untied_append p (x ∷ xs) ys h k l =
      (any_append (p x) xs ys h.0 (any_none (p x) ys l.0), untied_append p xs ys h.1 k l.1)
    where
      any_append : (q : A → Bool) (us vs : List A) → any q us ≡ false → any q vs ≡ false → any q (us ++ vs) ≡ false
      any_append q [] vs e d = d
      any_append q (u ∷ us) vs e d =
          let n = or_neither (q u) (any q us) e in
          rw (n.0, any_append q us vs n.1 d)

  pub untied_rising : (R : A → A → Type 0) (p : A → A → Bool) → ((x y : A) → R x y → p x y ≡ false) → (xs : List A)
      → Rising R xs → Untied p xs
  untied_rising R p apart [] h = tt
  untied_rising R p apart (x ∷ xs) h =
      (any_none (p x) xs (all_map xs (apart x) h.0), untied_rising R p apart xs h.1)

  -- equal members are of one part
  module _ (p : A → A → Bool) (part : A → ℕ) (one : (x y : A) → p x y ≡ true → eqb (part x) (part y) ≡ true) where
    untied_part : (x : A) (xs : List A) → any (p x) (within part (part x) xs) ≡ false → any (p x) xs ≡ false
    unfolding any within filter
    untied_part x [] e = refl
    untied_part x (y ∷ ys) e =
        by_cases (eqb (part x) (part y))
        (λ d.
        let n = or_neither (p x y) _ (sym (rw d) ∙ e) in
        rw n.0 (untied_part x ys n.1))
        (λ d.
        let n : p x y ≡ false = by_cases (p x y) (λ k. clash (one x y k) d) (λ k. k) in
        rw n (untied_part x ys (sym (rw d) ∙ e)))

    pub untied_parts : (xs : List A) → ((n : ℕ) → Untied p (within part n xs)) → Untied p xs
    unfolding within
    untied_parts [] h = tt
    untied_parts (x ∷ xs) h = (
      untied_part x xs
          (subst (Untied p) (filter_yes (λ y. eqb (part x) (part y)) x xs (eq-eqb (part x) (part x) refl))
          (h (part x))).0,
      untied_parts xs rest,
    )
      where
        rest : (n : ℕ) → Untied p (within part n xs)
        rest n =
            by_cases (eqb n (part x))
            (λ e. (subst (Untied p) (filter_yes (λ y. eqb n (part y)) x xs e) (h n)).1)
            (λ e. subst (Untied p) (filter_no (λ y. eqb n (part y)) x xs e) (h n))

pub untied_mapped : {A B : Type 0} (p : B → B → Bool) (f : A → B) (xs : List A)
    → Untied (λ x y. p (f x) (f y)) xs → Untied p (map f xs)
untied_mapped p f [] h = tt
untied_mapped p f (x ∷ xs) h =
    (any_through f (p (f x)) (λ y. p (f x) (f y)) (λ y. refl) xs ∙ h.0, untied_mapped p f xs h.1)
