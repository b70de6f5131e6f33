-- Laws of what is true of every member of a list, and of every two.
--     all-..           All of what the functions on lists make
--     all_get_d, all_at what is true of every member is true of the one at an index; a test that all pass, too
--     rising-..        Rising of what the functions on lists make
--     length_below     there are n numbers below n
--     byte_few         a flag counts for one at most
use Prim.Native.Nat.{ℕ, zero, suc, ◌≤◌, ◌<◌}
use mathlib.Core.Path.{◌≡◌, refl}
use mathlib.Core.List.{List, [], ◌∷◌, ◌++◌, map}
use mathlib.Core.Bool.{Bool, true, false, cond, ◌&&◌}
use native.Mathlib.Omega.{arith}
use mir.Val.{bool_byte}
use lib.ListN.{length, get_or, length-append}
use Rattle.laws.specs.Lists.{filter, all, below, All, Rising}
use Rattle.laws.proofs.Booleans.{both_true}

module _ {A : Type 0} where
  pub all_map : {P Q : A → Type 0} (xs : List A) → ((x : A) → P x → Q x) → All P xs → All Q xs
  all_map [] f h = tt
  all_map (x ∷ xs) f h = (f x h.0, all_map xs f h.1)

  pub all_any : {P : A → Type 0} (xs : List A) → ((x : A) → P x) → All P xs
  all_any [] f = tt
  all_any (x ∷ xs) f = (f x, all_any xs f)

  pub all_both : (P Q : A → Type 0) (xs : List A) → All P xs → All Q xs → All (λ x. P x × Q x) xs
  all_both P Q [] h k = tt
  all_both P Q (x ∷ xs) h k = ((h.0, k.0), all_both P Q xs h.1 k.1)

  pub all_append : (P : A → Type 0) (xs ys : List A) → All P xs → All P ys → All P (xs ++ ys)
  all_append P [] ys h k = k
  all_append P (x ∷ xs) ys h k = (h.0, all_append P xs ys h.1 k)

  pub all_get_d : (P : A → Type 0) (xs : List A) (i : ℕ) (d : A) → All P xs → i < length xs → P (get_or xs i d)
  all_get_d P [] i d h k = absurd (omega arith)
  all_get_d P (x ∷ xs) zero d h k = h.0
  all_get_d P (x ∷ xs) (suc i) d h k = all_get_d P xs i d h.1 (omega arith)

  pub all_at : (p : A → Bool) (xs : List A) (i : ℕ) (d : A) → all p xs ≡ true → i < length xs → p (get_or xs i d) ≡ true
  unfolding all
  all_at p [] i d e h = absurd (omega arith)
  all_at p (x ∷ xs) zero d e h = (both_true (p x) (all p xs) e).0
  all_at p (x ∷ xs) (suc i) d e h = all_at p xs i d (both_true (p x) (all p xs) e).1 (omega arith)

  pub rising_map : {R S : A → A → Type 0} (xs : List A) → ((x y : A) → R x y → S x y) → Rising R xs → Rising S xs
  rising_map [] f h = tt
  rising_map (x ∷ xs) f h = (all_map xs (f x) h.0, rising_map xs f h.1)

  -- one more at the end
  pub rising_last :
      (R : A → A → Type 0) (xs : List A) (y : A) → Rising R xs → All (λ x. R x y) xs → Rising R (xs ++ (y ∷ []))
  rising_last R [] y h k = (tt, tt)
  rising_last R (x ∷ xs) y h k =
      (all_append (R x) xs (y ∷ []) h.0 (k.0, tt), rising_last R xs y h.1 k.1)

  module _ (p : A → Bool) where
    pub filter_none : (xs : List A) → All (λ x. p x ≡ false) xs → filter p xs ≡ []
    unfolding filter
    filter_none [] h = refl
    filter_none (x ∷ xs) h = rw (h.0, filter_none xs h.1)

    -- a member that passes, in front
    all_front : (P : A → Type 0) (b : Bool) (x : A) (xs : List A) → P x → All P xs → All P (cond b (x ∷ xs) xs)
    all_front P true x xs h k = (h, k)
    all_front P false x xs h k = k

    pub all_kept : (P : A → Type 0) (xs : List A) → All P xs → All P (filter p xs)
    unfolding filter
    all_kept P [] h = tt
    all_kept P (x ∷ xs) h = all_front P (p x) x (filter p xs) h.0 (all_kept P xs h.1)

    pub all_passed : (P : A → Type 0) → ((x : A) → p x ≡ true → P x) → (xs : List A) → All P (filter p xs)
    unfolding filter
    all_passed P f [] = tt
    all_passed P f (x ∷ xs) = go (p x) refl (all_passed P f xs)
      where
        go : (b : Bool) → p x ≡ b → All P (filter p xs) → All P (cond b (x ∷ filter p xs) (filter p xs))
        go true e k = (f x e, k)
        go false e k = k

    pub rising_kept : (R : A → A → Type 0) (xs : List A) → Rising R xs → Rising R (filter p xs)
    unfolding filter
    rising_kept R [] h = tt
    rising_kept R (x ∷ xs) h = go (p x) (rising_kept R xs h.1)
      where
        go : (b : Bool) → Rising R (filter p xs) → Rising R (cond b (x ∷ filter p xs) (filter p xs))
        go true k = (all_kept (R x) xs h.0, k)
        go false k = k

module _ {A B : Type 0} where
  pub all_mapped : (P : B → Type 0) (f : A → B) (xs : List A) → All (λ x. P (f x)) xs → All P (map f xs)
  all_mapped P f [] h = tt
  all_mapped P f (x ∷ xs) h = (h.0, all_mapped P f xs h.1)

  pub rising_mapped :
      (R : B → B → Type 0) (f : A → B) (xs : List A) → Rising (λ x y. R (f x) (f y)) xs → Rising R (map f xs)
  rising_mapped R f [] h = tt
  rising_mapped R f (x ∷ xs) h = (all_mapped (R (f x)) f xs h.0, rising_mapped R f xs h.1)

pub all_below : (n : ℕ) → All (λ k. k < n) (below n)
unfolding below
all_below zero = tt
all_below (suc n) =
    all_append (λ k. k < suc n) (below n) (n ∷ [])
    (all_map (below n) (λ k h. omega arith) (all_below n))
    (omega arith, tt)

pub rising_below : (n : ℕ) → Rising (λ i k. i < k) (below n)
unfolding below
rising_below zero = tt
rising_below (suc n) = rising_last (λ i k. i < k) (below n) n (rising_below n) (all_below n)

pub length_below : (n : ℕ) → length (below n) ≡ n
unfolding below
length_below zero = refl
length_below (suc n) = simp length-append (omega (arith, length_below n))

pub byte_few : (b : Bool) → bool_byte b ≤ 1
byte_few true = omega arith
byte_few false = omega arith
