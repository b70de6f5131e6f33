-- Laws of numbering within groups.
--     filter_counted_after      a filter that keeps or drops whole groups commutes with numbering
--     counted_after_alone       rows of one group are numbered in turn
--     in_turn_rises             numbers given in turn rise
--     rising_once              where the numbers of a column rise, each stands once
use Prim.Native.Nat.{ℕ, suc, ◌<◌}
use native.Mathlib.Omega.{arith}
use mathlib.Core.Path.{◌≡◌, refl, sym, ap, ◌∙◌}
use mathlib.Core.List.{List, [], ◌∷◌, map}
use mathlib.Core.Bool.{Bool, true, false}
use lib.Dec.{eqb, leb}
use lib.ListN.{length}
use borrow.Author.Tests.{eqb-true, ne_eqb, lt-leb, leb-false}
use Rattle.laws.specs.Lists.{filter, All}
use Rattle.laws.specs.Keyed.{counted_after, within, in_turn, AtMostOne, absent, present}
use Rattle.laws.proofs.Lists.{all_map, filter_none}
use Rattle.laws.proofs.Filters.{count_filter, count_all, filter_yes, filter_no}
use Rattle.laws.proofs.Booleans.{by_cases}
use Rattle.laws.specs.Sorting.{Sorted}

module _ {A : Type 0} where
  module _ (group : A → A → Bool) where
    pub filter_counted_after : (p : A → Bool) → ((r s : A) → group r s ≡ true → p r ≡ p s) → (earlier xs : List A)
        → filter (λ r. p r.0) (counted_after group earlier xs) ≡ counted_after group (filter p earlier) (filter p xs)
    unfolding counted_after filter
    filter_counted_after p whole earlier [] = refl
    filter_counted_after p whole earlier (x ∷ xs) =
        by_cases (p x)
        (λ e.
        rw (
          e,
          count_filter (group x) p earlier (λ s g. sym (whole x s g) ∙ e),
          filter_counted_after p whole
              (x ∷ earlier) xs,
          e,
        ))
        (λ e. rw (e, filter_counted_after p whole (x ∷ earlier) xs, e))

    pub counted_after_alone : (P : A → Type 0) → ((r s : A) → P r → P s → group r s ≡ true) → (earlier xs : List A)
        → All P earlier → All P xs → counted_after group earlier xs ≡ in_turn (length earlier) xs
    unfolding counted_after in_turn
    counted_after_alone P alone earlier [] h k = refl
    counted_after_alone P alone earlier (x ∷ xs) h k =
        rw (
          count_all (group x) earlier (all_map earlier (λ s q. alone x s k.0 q) h),
          counted_after_alone P alone
              (x ∷ earlier) xs (k.0, h) k.1,
        )

  pub map_in_turn : (n : ℕ) (xs : List A) → map (λ r. r.0) (in_turn n xs) ≡ xs
  unfolding in_turn
  map_in_turn n [] = refl
  map_in_turn n (x ∷ xs) = ap (λ (r : List A). x ∷ r) (map_in_turn (suc n) xs)

  pub in_turn_behind : (n : ℕ) (xs : List A) → All (λ r. n < r.1) (in_turn n xs)
  unfolding in_turn
  in_turn_behind n [] = tt
  in_turn_behind n (x ∷ xs) =
      (omega arith, all_map (in_turn (suc n) xs) (λ r h. omega arith) (in_turn_behind (suc n) xs))

  -- numbers given in turn rise
  pub in_turn_rises : (n : ℕ) (xs : List A) → Sorted (λ r s. leb r.1 s.1) (in_turn n xs)
  unfolding in_turn
  in_turn_rises n [] = tt
  in_turn_rises n (x ∷ xs) = (
    all_map (in_turn (suc n) xs) (λ r h. lt-leb r.1 (suc n) h) (in_turn_behind (suc n) xs),
    in_turn_rises (suc n)
        xs,
  )

pub rising_once : {A : Type 0} (c : A → ℕ) (xs : List A) → Sorted (λ x y. leb (c x) (c y)) xs → (n : ℕ)
    → AtMostOne c n (within c n xs)
unfolding within filter
rising_once c [] h n = absent refl
rising_once c (x ∷ xs) h n =
    by_cases (eqb n (c x))
    (λ e. present x (eqb-true n (c x) e)
    (filter_yes (λ r. eqb n (c r)) x xs e
    ∙ ap (λ t. x ∷ t)
    (filter_none (λ r. eqb n (c r)) xs
    (all_map xs
    (λ r k. ne_eqb n (c r) (λ q. let d = eqb-true n (c x) e in let l = leb-false (c r) (c x) k in omega arith))
    h.0))))
    (λ e. skip e (rising_once c xs h.1 n))
  where
    skip : eqb n (c x) ≡ false → AtMostOne c n (within c n xs) → AtMostOne c n (within c n (x ∷ xs))
    skip e (absent d) = absent (filter_no (λ r. eqb n (c r)) x xs e ∙ d)
    skip e (present y k d) = present y k (filter_no (λ r. eqb n (c r)) x xs e ∙ d)
