-- The functions that operators are made of, against a mapping of every member: where two functions correspond through
-- a mapping, so do what they make of the members and of their images.
--     mapped, mapped_once         two mappings, one after another
--     filter_through, any_through, count_through, firsts_through, gather_through      the functions on lists
--     insert_through, sort_through    the stable sort
--     each_through                    members that may fail
use mathlib.Core.Path.{◌≡◌, refl, sym, ap, ap₂, ◌∙◌}
use mathlib.Core.List.{List, [], ◌∷◌, ◌++◌, map}
use mathlib.Core.Bool.{Bool, true, false, not, cond}
use Rattle.laws.specs.Lists.{filter, any, count, gather, firsts}
use Rattle.laws.specs.Sorting.{insert, sort}
use Rattle.laws.specs.Attempt.{Attempt, fails, gives, attempt, each}
use Rattle.laws.proofs.Filters.{map_append}

module _ {A B : Type 0} (f : A → B) where
  map_cond : (b : Bool) (x : A) (xs : List A) → cond b (f x ∷ map f xs) (map f xs) ≡ map f (cond b (x ∷ xs) xs)
  map_cond true x xs = refl
  map_cond false x xs = refl

  module _ (p : B → Bool) (q : A → Bool) (e : (x : A) → p (f x) ≡ q x) where
    pub filter_through : (xs : List A) → filter p (map f xs) ≡ map f (filter q xs)
    unfolding filter
    filter_through [] = refl
    filter_through (x ∷ xs) = rw (e x, filter_through xs) (map_cond (q x) x (filter q xs))

    pub any_through : (xs : List A) → any p (map f xs) ≡ any q xs
    unfolding any
    any_through [] = refl
    any_through (x ∷ xs) = rw (e x, any_through xs)

    pub count_through : (xs : List A) → count p (map f xs) ≡ count q xs
    unfolding count
    count_through [] = refl
    count_through (x ∷ xs) = rw (e x, count_through xs)

  module _ (p : B → B → Bool) (q : A → A → Bool) (e : (x y : A) → p (f x) (f y) ≡ q x y) where
    pub firsts_through : (xs : List A) → firsts p (map f xs) ≡ map f (firsts q xs)
    unfolding firsts
    firsts_through [] = refl
    firsts_through (x ∷ xs) =
        rw (firsts_through xs)
        (ap (λ (r : List B). f x ∷ r)
        (filter_through (λ y. not (p (f x) y)) (λ y. not (q x y)) (λ y. ap not (e x y)) (firsts q xs)))

    insert_step : (b : Bool) (x y : A) (zs ys : List A)
        → cond b (f y ∷ map f zs) (f x ∷ f y ∷ map f ys) ≡ map f (cond b (y ∷ zs) (x ∷ y ∷ ys))
    insert_step true x y zs ys = refl
    insert_step false x y zs ys = refl

    pub insert_through : (x : A) (xs : List A) → insert p (f x) (map f xs) ≡ map f (insert q x xs)
    unfolding insert
    insert_through x [] = refl
    insert_through x (y ∷ ys) = rw (e y x, insert_through x ys) (insert_step (q y x) x y (insert q x ys) ys)

    pub sort_through : (xs : List A) → sort p (map f xs) ≡ map f (sort q xs)
    unfolding sort
    sort_through [] = refl
    sort_through (x ∷ xs) = rw (sort_through xs) (insert_through x (sort q xs))

module _ {A B C : Type 0} where
  pub mapped : {D : Type 0} (g : B → C) (f : A → B) (k : D → C) (h : A → D) → ((x : A) → g (f x) ≡ k (h x))
      → (xs : List A) → map g (map f xs) ≡ map k (map h xs)
  mapped g f k h e [] = refl
  mapped g f k h e (x ∷ xs) = ap₂ ◌∷◌ (e x) (mapped g f k h e xs)

  pub mapped_once : (g : B → C) (f : A → B) (h : A → C) → ((x : A) → g (f x) ≡ h x)
      → (xs : List A) → map g (map f xs) ≡ map h xs
  mapped_once g f h e [] = refl
  mapped_once g f h e (x ∷ xs) = ap₂ ◌∷◌ (e x) (mapped_once g f h e xs)

module _ {A B C D : Type 0} (f : A → C) (g : B → D) where
  pub gather_through : (p : C → List D) (q : A → List B) → ((x : A) → p (f x) ≡ map g (q x))
      → (xs : List A) → gather p (map f xs) ≡ map g (gather q xs)
  unfolding gather
  gather_through p q e [] = refl
  gather_through p q e (x ∷ xs) =
      ap₂ ◌++◌ (e x) (gather_through p q e xs) ∙ sym (map_append g (q x) (gather q xs))

  -- what is given, read through g
  each_step : (a : Attempt (List B)) (b : Attempt (List B))
      → attempt (attempt a (λ ys. gives (map g ys)))
      (λ ys. attempt (attempt b (λ zs. gives (map g zs))) (λ zs. gives (ys ++ zs)))
      ≡ attempt (attempt a (λ ys. attempt b (λ zs. gives (ys ++ zs)))) (λ ys. gives (map g ys))
  unfolding attempt
  each_step fails b = refl
  each_step (gives ys) fails = refl
  each_step (gives ys) (gives zs) = ap gives (sym (map_append g ys zs))

  pub each_through : (p : C → Attempt (List D)) (q : A → Attempt (List B))
      → ((x : A) → p (f x) ≡ attempt (q x) (λ ys. gives (map g ys)))
      → (xs : List A) → each p (map f xs) ≡ attempt (each q xs) (λ ys. gives (map g ys))
  unfolding each attempt
  each_through p q e [] = refl
  each_through p q e (x ∷ xs) = rw (e x, each_through p q e xs) (each_step (q x) (each q xs))
