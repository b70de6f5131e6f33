-- Laws of `filter`, and members of lists.
--     all_in, all_of           what is true of all is true of a member, and the other way
--     filter_append, filter_map ..     filter against the other functions on lists
--     filter_sub               a filter that passes no more than another is not changed by it
--     filter_comm              two filters in either order
--     count_filter, count_all  counting what passes
--     gather_each, gather_map, map_gather ..     gather against map
--     each_map, each_filter, each_gather     attempts that never fail: one result for each, those that pass, any number
--     heads, tails, no_cons    equal lists taken apart
use mathlib.Core.Path.{◌≡◌, refl, sym, ap, ◌∙◌, subst}
use mathlib.Core.Logic.{inl, inr}
use mathlib.Core.List.{List, [], ◌∷◌, ◌++◌, map, append_assoc}
use mathlib.Core.Bool.{Bool, true, false, cond, true≢false}
use lib.ListN.{length}
use Rattle.laws.specs.Lists.{filter, count, gather, All, In}
use Rattle.laws.specs.Attempt.{gives, attempt, each}
use Rattle.laws.proofs.Booleans.{by_cases, clash}
use Rattle.laws.proofs.Lists.{all_passed}

module _ {A : Type 0} where
  pub all_in : (P : A → Type 0) (xs : List A) (x : A) → All P xs → In x xs → P x
  all_in P [] x h x4 = elim x4 [ ]
  all_in P (y ∷ ys) x h (inl e) = subst P (sym e) h.0
  all_in P (y ∷ ys) x h (inr i) = all_in P ys x h.1 i

  pub all_of : (P : A → Type 0) (xs : List A) → ((x : A) → In x xs → P x) → All P xs
  all_of P [] f = tt
  all_of P (x ∷ xs) f = (f x (inl refl), all_of P xs (λ y i. f y (inr i)))

  module _ (p : A → Bool) where
    pub filter_yes : (x : A) (xs : List A) → p x ≡ true → filter p (x ∷ xs) ≡ x ∷ filter p xs
    unfolding filter
    filter_yes x xs e = rw e

    pub filter_no : (x : A) (xs : List A) → p x ≡ false → filter p (x ∷ xs) ≡ filter p xs
    unfolding filter
    filter_no x xs e = rw e

    pub filter_append : (xs ys : List A) → filter p (xs ++ ys) ≡ filter p xs ++ filter p ys
    unfolding filter
    filter_append [] ys = refl
    filter_append (x ∷ xs) ys =
        by_cases (p x)
        (λ e. rw (e, filter_append xs ys))
        (λ e. rw (e, filter_append xs ys))

    pub filter_all : (xs : List A) → All (λ x. p x ≡ true) xs → filter p xs ≡ xs
    unfolding filter
    filter_all [] h = refl
    filter_all (x ∷ xs) h = rw (h.0, filter_all xs h.1)

    pub all_filter : (xs : List A) → All (λ x. p x ≡ true) (filter p xs)
    all_filter xs = all_passed p (λ x. p x ≡ true) (λ x e. e) xs

    pub in_filter : (xs : List A) (x : A) → In x xs → p x ≡ true → In x (filter p xs)
    unfolding filter
    in_filter [] x x4 e = elim x4 [ ]
    in_filter (y ∷ ys) x (inl d) e = rw (sym (ap p d) ∙ e) (inl d)
    in_filter (y ∷ ys) x (inr i) e =
        by_cases (p y)
        (λ k. rw k (inr (in_filter ys x i e)))
        (λ k. rw k (in_filter ys x i e))

  -- a filter within a filter
  pub filter_sub : (p q : A → Bool) (xs : List A) → ((x : A) → p x ≡ true → q x ≡ true)
      → filter p (filter q xs) ≡ filter p xs
  unfolding filter
  filter_sub p q [] h = refl
  filter_sub p q (x ∷ xs) h =
      by_cases (q x)
      (λ e. rw (e, filter_sub p q xs h))
      (λ e. by_cases (p x) (λ k. clash (h x k) e) (λ k. rw (e, k, filter_sub p q xs h)))

  pub filter_comm : (p q : A → Bool) (xs : List A) → filter p (filter q xs) ≡ filter q (filter p xs)
  unfolding filter
  filter_comm p q [] = refl
  filter_comm p q (x ∷ xs) =
      by_cases (p x)
      (λ e. by_cases (q x) (λ d. rw (e, d, e, filter_comm p q xs)) (λ d. rw (e, d, filter_comm p q xs)))
      (λ e. by_cases (q x) (λ d. rw (e, d, e, filter_comm p q xs)) (λ d. rw (e, d, filter_comm p q xs)))

  pub filter_same : (p q : A → Bool) (xs : List A) → All (λ x. p x ≡ q x) xs → filter p xs ≡ filter q xs
  unfolding filter
  filter_same p q [] h = refl
  filter_same p q (x ∷ xs) h = rw (h.0, filter_same p q xs h.1)

  pub count_filter : (p q : A → Bool) (xs : List A) → ((x : A) → p x ≡ true → q x ≡ true)
      → count p (filter q xs) ≡ count p xs
  unfolding filter count
  count_filter p q [] h = refl
  count_filter p q (x ∷ xs) h =
      by_cases (q x)
      (λ e. rw (e, count_filter p q xs h))
      (λ e. by_cases (p x) (λ k. clash (h x k) e) (λ k. rw (e, k, count_filter p q xs h)))

  pub count_all : (p : A → Bool) (xs : List A) → All (λ x. p x ≡ true) xs → count p xs ≡ length xs
  unfolding count
  count_all p [] h = refl
  count_all p (x ∷ xs) h = rw (h.0, count_all p xs h.1)

pub map_append : {A B : Type 0} (f : A → B) (xs ys : List A) → map f (xs ++ ys) ≡ map f xs ++ map f ys
map_append f [] ys = refl
map_append f (x ∷ xs) ys = ap (λ r. f x ∷ r) (map_append f xs ys)

module _ {A B : Type 0} where
  pub filter_map : (p : B → Bool) (f : A → B) (xs : List A) → filter p (map f xs) ≡ map f (filter (λ x. p (f x)) xs)
  unfolding filter
  filter_map p f [] = refl
  filter_map p f (x ∷ xs) =
      by_cases (p (f x))
      (λ e. rw (e, filter_map p f xs))
      (λ e. rw (e, filter_map p f xs))

  pub gather_same : (f g : A → List B) (xs : List A) → All (λ x. f x ≡ g x) xs → gather f xs ≡ gather g xs
  unfolding gather
  gather_same f g [] h = refl
  gather_same f g (x ∷ xs) h = rw (h.0, gather_same f g xs h.1)

  pub gather_each : (f : A → B) (xs : List A) → gather (λ x. f x ∷ []) xs ≡ map f xs
  unfolding gather
  gather_each f [] = refl
  gather_each f (x ∷ xs) = ap (λ (r : List B). f x ∷ r) (gather_each f xs)

  pub gather_map : {C : Type 0} (f : B → List C) (g : A → B) (xs : List A)
      → gather f (map g xs) ≡ gather (λ x. f (g x)) xs
  unfolding gather
  gather_map f g [] = refl
  gather_map f g (x ∷ xs) = ap (λ r. f (g x) ++ r) (gather_map f g xs)

  pub map_gather : {C : Type 0} (f : B → C) (h : A → List B) (xs : List A)
      → map f (gather h xs) ≡ gather (λ x. map f (h x)) xs
  unfolding gather
  map_gather f h [] = refl
  map_gather f h (x ∷ xs) = map_append f (h x) (gather h xs) ∙ ap (λ r. map f (h x) ++ r) (map_gather f h xs)

  pub all_unmapped : (P : B → Type 0) (f : A → B) (xs : List A) → All P (map f xs) → All (λ x. P (f x)) xs
  all_unmapped P f [] h = tt
  all_unmapped P f (x ∷ xs) h = (h.0, all_unmapped P f xs h.1)

  -- attempts that never fail
  pub each_map : (h : A → B) (xs : List A) → each (λ x. gives (h x ∷ [])) xs ≡ gives (map h xs)
  unfolding each attempt
  each_map h [] = refl
  each_map h (x ∷ xs) = rw (each_map h xs)

  pub each_gather : (g : A → List B) (xs : List A) → each (λ x. gives (g x)) xs ≡ gives (gather g xs)
  unfolding each attempt gather
  each_gather g [] = refl
  each_gather g (x ∷ xs) = rw (each_gather g xs)

pub each_filter : {A : Type 0} (p : A → Bool) (xs : List A)
    → each (λ x. gives (cond (p x) (x ∷ []) [])) xs ≡ gives (filter p xs)
unfolding each attempt filter
each_filter p [] = refl
each_filter p (x ∷ xs) = rw (each_filter p xs) (by_test (p x))
  where
    by_test : (b : Bool) → gives (cond b (x ∷ []) [] ++ filter p xs) ≡ gives (cond b (x ∷ filter p xs) (filter p xs))
    by_test true = refl
    by_test false = refl

-- equal lists, taken apart
module _ {A : Type 0} where
  pub heads : {x y : A} {xs ys : List A} → x ∷ xs ≡ y ∷ ys → x ≡ y
  heads e = cc

  pub tails : {x y : A} {xs ys : List A} → x ∷ xs ≡ y ∷ ys → xs ≡ ys
  tails e = cc

  abbrev is_empty : List A → Type 0
  is_empty [] = Unit {0}
  is_empty (x ∷ xs) = ⊥

  pub no_cons : {P : Type 0} {x : A} {xs : List A} → [] ≡ x ∷ xs → P
  no_cons e = absurd (subst is_empty e tt)

  pub map_id : (xs : List A) → map (λ x. x) xs ≡ xs
  map_id [] = refl
  map_id (x ∷ xs) = ap (λ r. x ∷ r) (map_id xs)

pub in_map : {A B : Type 0} (f : A → B) (xs : List A) (x : A) → In x xs → In (f x) (map f xs)
in_map f [] x x3 = elim x3 [ ]
in_map f (y ∷ ys) x (inl e) = inl (ap f e)
in_map f (y ∷ ys) x (inr i) = inr (in_map f ys x i)

pub in_none : {A P : Type 0} (x : A) (xs : List A) → xs ≡ [] → In x xs → P
in_none x xs e i = absurd (subst (In x) e i)

pub gather_append : {A B : Type 0} (f : A → List B) (xs ys : List A) → gather f (xs ++ ys) ≡ gather f xs ++ gather f ys
unfolding gather
gather_append f [] ys = refl
gather_append f (x ∷ xs) ys =
    ap (f x ++◌) (gather_append f xs ys) ∙ sym (append_assoc (f x) (gather f xs) (gather f ys))
