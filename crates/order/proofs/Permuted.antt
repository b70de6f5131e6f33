-- The same members in another order: which functions on lists do not care, and which keep the members.
--     by_moves                 what holds of every single move holds of any order
--     permuted_is              equal lists
--     permuted_append, swap_blocks     two lists, one after the other
--     map-, filter-, gather-, firsts_permuted     keep the members
--     any-, once-, length_permuted     do not care
--     permuted_short           a list of at most one member has no other order
--     SameRows a b             attempts a and b both fail, or give the same members
--     each_permuted            `each` over the same members
use Prim.Native.Nat.{suc, ◌≤◌}
use native.Mathlib.Omega.{arith}
use mathlib.Core.Path.{◌≡◌, refl, sym, ap, ◌∙◌, subst, subst₂}
use mathlib.Core.List.{List, [], ◌∷◌, ◌++◌, map, append_assoc}
use mathlib.Core.List.Permᴰ
use mathlib.Core.Bool.{Bool, true, false, not, cond, ◌&&◌, ◌||◌}
use lib.IntN.{ℤ}
use lib.ListN.{length}
use Rattle.cells.specs.Cell.{same}
use Rattle.cells.proofs.Cells.{same_sym, same_eq}
use Rattle.laws.specs.Lists.{filter, any, gather, firsts}
use Rattle.laws.specs.Attempt.{Attempt, fails, gives, attempt, each}
use Rattle.laws.proofs.Booleans.{by_cases}
use Rattle.laws.proofs.Filters.{filter_comm}
use Rattle.laws.proofs.Outcomes.{fails_gives, gives_same}
use Rattle.meaning.specs.Operators.{once}
use Rattle.order.specs.Shuffled.{Permuted}

-- a relation that holds of every single move, and goes through
module _ {A : Type 0} (R : List A → List A → Type 0) (nothing : R [] [])
    (front : (x : A) (xs ys : List A) → Permuted xs ys → R xs ys → R (x ∷ xs) (x ∷ ys))
    (moved : (x y : A) (xs : List A) → R (x ∷ y ∷ xs) (y ∷ x ∷ xs))
    (through : (xs ys zs : List A) → R xs ys → R ys zs → R xs zs) where
  pub by_moves : {xs ys : List A} → Permuted xs ys → R xs ys
  by_moves Permᴰ.nil = nothing
  by_moves (Permᴰ.cons {a} {b} {l₁} {l₂} e d) =
      subst (λ y. R (a ∷ l₁) (y ∷ l₂)) e (front a l₁ l₂ d (by_moves d))
  by_moves (Permᴰ.swap {a} {b} {a'} {b'} {l} e d) =
      subst₂ (λ x y. R (a ∷ b ∷ l) (x ∷ y ∷ l)) d e (moved a b l)
  by_moves (Permᴰ.trans {l₁} {l₂} {l₃} d e) = through l₁ l₂ l₃ (by_moves d) (by_moves e)

module _ {A : Type 0} where
  pub permuted_is : {xs ys : List A} → xs ≡ ys → Permuted xs ys
  permuted_is {xs} e = subst (Permuted xs) e (Permᴰ.refl xs)

  pub permuted_append : {xs ys us vs : List A} → Permuted xs ys → Permuted us vs → Permuted (xs ++ us) (ys ++ vs)
  permuted_append {ys = ys} {us = us} p q = Permᴰ.trans (Permᴰ.append_right us p) (Permᴰ.append_left ys q)

  append_turned : (xs ys : List A) → Permuted (xs ++ ys) (ys ++ xs)
  append_turned [] ys = Permᴰ.symm (Permᴰ.append-nil ys)
  append_turned (x ∷ xs) ys =
      Permᴰ.trans (Permᴰ.cons refl (append_turned xs ys)) (Permᴰ.symm (Permᴰ.middle x ys xs))

  pub swap_blocks : (xs ys zs : List A) → Permuted (xs ++ (ys ++ zs)) (ys ++ (xs ++ zs))
  swap_blocks xs ys zs =
      subst₂ Permuted (append_assoc xs ys zs) (append_assoc ys xs zs) (Permᴰ.append_right zs (append_turned xs ys))

  pub filter_permuted : (p : A → Bool) {xs ys : List A} → Permuted xs ys → Permuted (filter p xs) (filter p ys)
  unfolding filter
  filter_permuted p =
      by_moves (λ xs ys. Permuted (filter p xs) (filter p ys)) Permᴰ.nil (λ x xs ys d h. front (p x) x h)
      (λ x y xs. moved (p x) (p y) x y (filter p xs)) (λ xs ys zs h k. Permᴰ.trans h k)
    where
      front : (b : Bool) (x : A) {us vs : List A} → Permuted us vs → Permuted (cond b (x ∷ us) us) (cond b (x ∷ vs) vs)
      front true x h = Permᴰ.cons refl h
      front false x h = h

      moved : (b c : Bool) (x y : A) (us : List A)
          → Permuted (cond b (x ∷ cond c (y ∷ us) us) (cond c (y ∷ us) us))
          (cond c (y ∷ cond b (x ∷ us) us) (cond b (x ∷ us) us))
      moved true true x y us = Permᴰ.swap refl refl
      moved true false x y us = Permᴰ.refl (x ∷ us)
      moved false true x y us = Permᴰ.refl (y ∷ us)
      moved false false x y us = Permᴰ.refl us

  pub any_permuted : (p : A → Bool) {xs ys : List A} → Permuted xs ys → any p xs ≡ any p ys
  unfolding any
  any_permuted p =
      by_moves (λ xs ys. any p xs ≡ any p ys) refl (λ x xs ys d h. ap (λ (b : Bool). p x || b) h)
      (λ x y xs. moved (p x) (p y) (any p xs)) (λ xs ys zs h k. h ∙ k)
    where
      moved : (a b c : Bool) → (a || (b || c)) ≡ (b || (a || c))
      moved true true c = refl
      moved true false c = refl
      moved false b c = refl

  pub length_permuted : {xs ys : List A} → Permuted xs ys → length xs ≡ length ys
  length_permuted =
      by_moves (λ xs ys. length xs ≡ length ys) refl (λ x xs ys d h. ap suc h) (λ x y xs. refl) (λ xs ys zs h k. h ∙ k)

  pub permuted_short : {xs ys : List A} → Permuted xs ys → length xs ≤ 1 → xs ≡ ys
  permuted_short d =
      (by_moves (λ xs ys. (length xs ≡ length ys) × (length xs ≤ 1 → xs ≡ ys)) (refl, λ h. refl)
      (λ x xs ys d r. (ap suc r.0, λ h. ap (λ (l : List A). x ∷ l) (r.1 (omega arith))))
      (λ x y xs. (refl, λ h. absurd (omega arith)))
      (λ xs ys zs r s. (r.0 ∙ s.0, λ h. r.1 h ∙ s.1 (omega (arith, r.0))))
      d).1

module _ {A B : Type 0} where
  pub map_permuted : (f : A → B) {xs ys : List A} → Permuted xs ys → Permuted (map f xs) (map f ys)
  map_permuted f =
      by_moves (λ xs ys. Permuted (map f xs) (map f ys)) Permᴰ.nil (λ x xs ys d h. Permᴰ.cons refl h)
      (λ x y xs. Permᴰ.swap refl refl) (λ xs ys zs h k. Permᴰ.trans h k)

  pub gather_permuted : (f : A → List B) {xs ys : List A} → Permuted xs ys → Permuted (gather f xs) (gather f ys)
  unfolding gather
  gather_permuted f =
      by_moves (λ xs ys. Permuted (gather f xs) (gather f ys)) Permᴰ.nil
      (λ x xs ys d h. Permᴰ.append_left (f x) h) (λ x y xs. swap_blocks (f x) (f y) (gather f xs))
      (λ xs ys zs h k. Permᴰ.trans h k)

  -- .. of functions whose results have the same members
  pub gather_alike : (f g : A → List B) → ((x : A) → Permuted (f x) (g x)) → (xs : List A)
      → Permuted (gather f xs) (gather g xs)
  unfolding gather
  gather_alike f g h [] = Permᴰ.nil
  gather_alike f g h (x ∷ xs) = permuted_append (h x) (gather_alike f g h xs)

-- Different cells, each where it first appears

firsts_moved : (x y : ℤ) (zs : List ℤ)
    → Permuted (x ∷ filter (λ z. not (same x z)) (y ∷ filter (λ z. not (same y z)) zs))
    (y ∷ filter (λ z. not (same y z)) (x ∷ filter (λ z. not (same x z)) zs))
unfolding filter
firsts_moved x y zs =
    by_cases (same x y)
    (λ e.
    rw (e, sym (same_sym x y) ∙ e)
    (permuted_is
    (ap (λ (c : ℤ). c ∷ filter (λ z. not (same x z)) (filter (λ z. not (same y z)) zs)) (same_eq x y e)
    ∙ ap (λ (l : List ℤ). y ∷ l) (filter_comm (λ z. not (same x z)) (λ z. not (same y z)) zs))))
    (λ e.
    rw (e, sym (same_sym x y) ∙ e)
    (Permᴰ.trans (Permᴰ.swap refl refl)
    (permuted_is
    (ap (λ (l : List ℤ). y ∷ x ∷ l) (filter_comm (λ z. not (same x z)) (λ z. not (same y z)) zs)))))

pub firsts_permuted : {xs ys : List ℤ} → Permuted xs ys → Permuted (firsts same xs) (firsts same ys)
unfolding firsts
firsts_permuted =
    by_moves (λ xs ys. Permuted (firsts same xs) (firsts same ys)) Permᴰ.nil
    (λ x xs ys d h. Permᴰ.cons refl (filter_permuted (λ z. not (same x z)) h))
    (λ x y xs. firsts_moved x y (firsts same xs)) (λ xs ys zs h k. Permᴰ.trans h k)

-- no cell twice
pub once_permuted : {xs ys : List ℤ} → Permuted xs ys → once xs ≡ once ys
unfolding once any
once_permuted =
    by_moves (λ xs ys. once xs ≡ once ys) refl
    (λ x xs ys d h. rw (any_permuted (same x) d, h))
    (λ x y xs. rw (same_sym y x) (moved (same x y) (any (same x) xs) (any (same y) xs) (once xs)))
    (λ xs ys zs h k. h ∙ k)
  where
    moved : (a b c d : Bool) → (not (a || b) && (not c && d)) ≡ (not (a || c) && (not b && d))
    moved true b c d = refl
    moved false true true d = refl
    moved false true false d = refl
    moved false false true d = refl
    moved false false false d = refl

-- Attempts

pub data SameRows {A : Type 0} (a b : Attempt (List A)) : Type 0 where
  both_fail : a ≡ fails → b ≡ fails → SameRows a b
  both_give : (xs ys : List A) → a ≡ gives xs → b ≡ gives ys → Permuted xs ys → SameRows a b

module _ {A : Type 0} where
  pub same_gives : {xs ys : List A} → Permuted xs ys → SameRows (gives xs) (gives ys)
  same_gives {xs} {ys} d = both_give xs ys refl refl d

  same_through : {a b c : Attempt (List A)} → SameRows a b → SameRows b c → SameRows a c
  same_through (both_fail e d) (both_fail k l) = both_fail e l
  same_through (both_fail e d) (both_give xs ys k l p) = absurd (fails_gives xs (sym d ∙ k))
  same_through (both_give xs ys e d p) (both_fail k l) = absurd (fails_gives ys (sym k ∙ d))
  same_through (both_give xs ys e d p) (both_give us vs k l q) =
      both_give xs vs e l (Permᴰ.trans p (subst (λ zs. Permuted zs vs) (gives_same (sym k ∙ d)) q))

module _ {A B : Type 0} (f : A → Attempt (List B)) where
  both : Attempt (List B) → Attempt (List B) → Attempt (List B)
  both a b = attempt a (λ ys. attempt b (λ zs. gives (ys ++ zs)))

  both_behind : (a : Attempt (List B)) {b c : Attempt (List B)} → SameRows b c → SameRows (both a b) (both a c)
  unfolding both attempt
  both_behind fails h = both_fail refl refl
  both_behind (gives xs) (both_fail e d) = both_fail (rw e) (rw d)
  both_behind (gives xs) (both_give ys zs e d p) =
      both_give (xs ++ ys) (xs ++ zs) (rw e) (rw d) (Permᴰ.append_left xs p)

  both_moved : (a b c : Attempt (List B)) → SameRows (both a (both b c)) (both b (both a c))
  unfolding both attempt
  both_moved fails fails c = both_fail refl refl
  both_moved fails (gives ys) c = both_fail refl refl
  both_moved (gives xs) fails c = both_fail refl refl
  both_moved (gives xs) (gives ys) fails = both_fail refl refl
  both_moved (gives xs) (gives ys) (gives zs) =
      both_give (xs ++ (ys ++ zs)) (ys ++ (xs ++ zs)) refl refl (swap_blocks xs ys zs)

  pub each_permuted : {xs ys : List A} → Permuted xs ys → SameRows (each f xs) (each f ys)
  unfolding each both
  each_permuted =
      by_moves (λ xs ys. SameRows (each f xs) (each f ys)) (same_gives Permᴰ.nil)
      (λ x xs ys d h. both_behind (f x) h) (λ x y xs. both_moved (f x) (f y) (each f xs))
      (λ xs ys zs h k. same_through h k)
