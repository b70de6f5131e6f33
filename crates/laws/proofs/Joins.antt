-- Laws of joins.
--     eqb_sym                  equality of numbers goes both ways
--     filter_const             a filter that does not look
--     joined_left, joined_right    filter through a join, on either side
--     joined_all, joined_at    the pairs with number i: each left row of i with each right row of i
--     joined_one, joined_none  a join with one row, with none
use Prim.Native.Nat.{ℕ}
use mathlib.Core.Path.{◌≡◌, refl, sym, ap, ap₂, ◌∙◌}
use mathlib.Core.List.{List, [], ◌∷◌, ◌++◌, map}
use mathlib.Core.Bool.{Bool, true, false, cond}
use lib.Dec.{eqb}
use borrow.Author.Tests.{eqb-true, eqb-false, eq-eqb, ne_eqb}
use Rattle.laws.specs.Lists.{filter, gather, All}
use Rattle.laws.specs.Keyed.{joined, within}
use Rattle.laws.proofs.Lists.{all_map}
use Rattle.laws.proofs.Filters.{all_filter, filter_append, filter_map}
use Rattle.laws.proofs.Booleans.{by_cases}
use Rattle.laws.proofs.Filters.{filter_comm, gather_same}

pub eqb_sym : (m n : ℕ) → eqb m n ≡ eqb n m
eqb_sym m n =
    by_cases (eqb n m)
    (λ e. eq-eqb m n (sym (eqb-true n m e)) ∙ sym e)
    (λ e. ne_eqb m n (λ d. eqb-false n m e (sym d)) ∙ sym e)

pub filter_const : {A : Type 0} (b : Bool) (xs : List A) → filter (λ x. b) xs ≡ cond b xs []
unfolding filter
filter_const true [] = refl
filter_const false [] = refl
filter_const true (x ∷ xs) = ap (λ r. x ∷ r) (filter_const true xs)
filter_const false (x ∷ xs) = filter_const false xs

module _ {A B : Type 0} (c : A → ℕ) (d : B → ℕ) where
  pub joined_left : (p : A → Bool) (t : List A) (u : List B)
      → filter (λ r. p r.0) (joined c d t u) ≡ joined c d (filter p t) u
  unfolding joined gather filter
  joined_left p [] u = refl
  joined_left p (r ∷ t) u =
      filter_append (λ x. p x.0) (map (λ s. (r, s)) (filter (λ s. eqb (c r) (d s)) u)) (joined c d t u)
      ∙ ap₂ ◌++◌ (filter_map (λ x. p x.0) (λ s. (r, s)) (filter (λ s. eqb (c r) (d s)) u)) (joined_left p t u)
      ∙ by_cases (p r)
      (λ e. rw (e, filter_const true (filter (λ s. eqb (c r) (d s)) u)))
      (λ e. rw (e, filter_const false (filter (λ s. eqb (c r) (d s)) u)))

  pub joined_right : (p : B → Bool) (t : List A) (u : List B)
      → filter (λ r. p r.1) (joined c d t u) ≡ joined c d t (filter p u)
  unfolding joined gather filter
  joined_right p [] u = refl
  joined_right p (r ∷ t) u =
      filter_append (λ x. p x.1) (map (λ s. (r, s)) (filter (λ s. eqb (c r) (d s)) u)) (joined c d t u)
      ∙ ap₂ ◌++◌
      (filter_map (λ x. p x.1) (λ s. (r, s)) (filter (λ s. eqb (c r) (d s)) u)
      ∙ ap (map (λ s. (r, s))) (filter_comm p (λ s. eqb (c r) (d s)) u))
      (joined_right p t u)

  pub joined_all : (i : ℕ) (t : List A) (u : List B) → All (λ r. eqb i (c r) ≡ true) t
      → joined c d t u ≡ gather (λ r. map (λ s. (r, s)) (within d i u)) t
  unfolding joined within
  joined_all i t u h =
      gather_same _ _ t
      (all_map t (λ r e. ap (λ (n : ℕ). map (λ s. (r, s)) (filter (λ s. eqb n (d s)) u)) (sym (eqb-true i (c r) e)))
      h)

  pub joined_at : (i : ℕ) (t : List A) (u : List B)
      → filter (λ r. eqb i (c r.0)) (joined c d t u)
      ≡ gather (λ r. map (λ s. (r, s)) (within d i u)) (within c i t)
  unfolding within
  joined_at i t u =
      joined_left (λ r. eqb i (c r)) t u
      ∙ joined_all i (filter (λ r. eqb i (c r)) t) u (all_filter (λ r. eqb i (c r)) t)

  pub joined_one : (t : List A) (s : B) → joined c d t (s ∷ []) ≡ map (λ r. (r, s)) (within c (d s) t)
  unfolding joined gather filter within
  joined_one [] s = refl
  joined_one (r ∷ t) s =
      rw (eqb_sym (d s) (c r))
      (by_cases (eqb (c r) (d s))
      (λ e. rw e (ap (λ x. (r, s) ∷ x) (joined_one t s)))
      (λ e. rw e (joined_one t s)))

  pub joined_none : (t : List A) → joined c d t [] ≡ []
  unfolding joined gather filter
  joined_none [] = refl
  joined_none (r ∷ t) = joined_none t

-- each row joined with one thing, or with nothing
module _ {A B : Type 0} where
  pub gather_one : (s : B) (xs : List A) → map (λ (r : A × B). r.0) (gather (λ r. (r, s) ∷ []) xs) ≡ xs
  unfolding gather
  gather_one s [] = refl
  gather_one s (x ∷ xs) = ap (λ (r : List A). x ∷ r) (gather_one s xs)

  pub gather_none : (xs : List A) → gather {B = B} (λ x. []) xs ≡ []
  unfolding gather
  gather_none [] = refl
  gather_none (x ∷ xs) = gather_none xs
