-- Laws of `each` and `extended`: every member gives, or one fails.
--     got a                    what an attempt gives, nothing where it fails
--     EachOutcome f xs         all members give and `each` gathers what they give, or one fails and so does `each`
--     outcome f xs             one of the two
--     each_fails, each_gives, each_known     `each` where a member fails; where all give; where it is known what
--     extended_then            a row's function, then a function of each row so extended, is one `each`
--     alone k a                an attempt at one thing, given as k of it
use mathlib.Core.Path.{◌≡◌, refl, sym, ap, ◌∙◌, subst}
use mathlib.Core.Logic.{inl, inr}
use mathlib.Core.List.{List, [], ◌∷◌, ◌++◌, map}
use Rattle.laws.specs.Lists.{gather, All, In}
use Rattle.laws.proofs.Filters.{all_in}
use Rattle.laws.specs.Attempt.{Attempt, fails, gives, attempt, each}
use Rattle.agreement.specs.Typed.{extended}

unfoldable pub got : {B : Type 0} → Attempt (List B) → List B
got fails = []
got (gives ys) = ys

pub data EachOutcome {A B : Type 0} (f : A → Attempt (List B)) (xs : List A) : Type 0 where
  all_give : All (λ x. f x ≡ gives (got (f x))) xs → each f xs ≡ gives (gather (λ x. got (f x)) xs) → EachOutcome f xs
  one_fails : (x : A) → In x xs → f x ≡ fails → each f xs ≡ fails → EachOutcome f xs

module _ {A B : Type 0} (f : A → Attempt (List B)) where
  pub outcome : (xs : List A) → EachOutcome f xs
  unfolding each gather attempt got
  outcome [] = all_give tt refl
  outcome (x ∷ xs) = here (f x) refl (outcome xs)
    where
      there : (ys : List B) → f x ≡ gives ys → EachOutcome f xs → EachOutcome f (x ∷ xs)
      there ys e (all_give h k) =
          all_give (e ∙ ap gives (sym (ap got e)), h)
          (rw (e, k) refl)
      there ys e (one_fails y i h k) = one_fails y (inr i) h (rw (e, k) refl)

      here : (a : Attempt (List B)) → f x ≡ a → EachOutcome f xs → EachOutcome f (x ∷ xs)
      here fails e o = one_fails x (inl refl) e (rw e refl)
      here (gives ys) e o = there ys e o

module _ {A B C : Type 0} where
  pub each_map : (f : B → Attempt (List C)) (g : A → B) (xs : List A) → each f (map g xs) ≡ each (λ x. f (g x)) xs
  unfolding each
  each_map f g [] = refl
  each_map f g (x ∷ xs) = rw (each_map f g xs)

is_failing : {A : Type 0} → Attempt A → Type 0
is_failing fails = Unit {0}
is_failing (gives a) = ⊥

pub fails_gives : {P A : Type 0} {x : Attempt A} {a : A} → x ≡ fails → x ≡ gives a → P
unfolding is_failing
fails_gives e d = absurd (subst is_failing (sym e ∙ d) tt)

module _ {A B : Type 0} (f : A → Attempt (List B)) where
  pub each_fails : (xs : List A) (x : A) → In x xs → f x ≡ fails → each f xs ≡ fails
  each_fails xs x i e = go (outcome f xs)
    where
      go : EachOutcome f xs → each f xs ≡ fails
      go (all_give h k) = fails_gives e (all_in (λ y. f y ≡ gives (got (f y))) xs x h i)
      go (one_fails y j h k) = k

  pub each_gives : (xs : List A) → All (λ x. f x ≡ gives (got (f x))) xs
      → each f xs ≡ gives (gather (λ x. got (f x)) xs)
  each_gives xs h = go (outcome f xs)
    where
      go : EachOutcome f xs → each f xs ≡ gives (gather (λ x. got (f x)) xs)
      go (all_give h k) = k
      go (one_fails y j e k) = fails_gives e (all_in (λ y. f y ≡ gives (got (f y))) xs y h j)

-- a row's function, then a function of each row so extended
module _ {A B C : Type 0} (f : A → Attempt B) (k : A × B → C) where
  pub extended_then : (t : List A)
      → attempt (extended f t) (λ u. gives (map k u)) ≡ each (λ r. attempt (f r) (λ z. gives (k (r, z) ∷ []))) t
  unfolding extended each attempt
  extended_then [] = refl
  extended_then (r ∷ t) = here (f r) (extended f t) (extended_then t)
    where
      here : (a : Attempt B) (b : Attempt (List (A × B))) {c : Attempt (List C)}
          → attempt b (λ u. gives (map k u)) ≡ c
          → attempt (attempt (attempt a (λ z. gives ((r, z) ∷ []))) (λ ys. attempt b (λ zs. gives (ys ++ zs))))
          (λ u. gives (map k u))
          ≡ attempt (attempt a (λ z. gives (k (r, z) ∷ []))) (λ ys. attempt c (λ zs. gives (ys ++ zs)))
      here fails b e = refl
      here (gives z) fails e = rw (← e) refl
      here (gives z) (gives u) e = rw (← e) refl

-- an attempt at one thing, given in two forms: both fail or both give
abbrev pub alone : {A B : Type 0} → (A → B) → Attempt A → Attempt (List B)
alone k a = attempt a (λ z. gives (k z ∷ []))

module _ {A B C : Type 0} (k : A → B) (j : A → C) where
  pub alone_gives : (a : Attempt A) → alone k a ≡ gives (got (alone k a)) → alone j a ≡ gives (got (alone j a))
  unfolding attempt got
  alone_gives fails e = fails_gives refl e
  alone_gives (gives z) e = refl

  pub alone_fails : (a : Attempt A) → alone k a ≡ fails → alone j a ≡ fails
  unfolding attempt
  alone_fails fails e = refl
  alone_fails (gives z) e = fails_gives e refl

pub all_alone : {A B : Type 0} (P : B → Type 0) (k : A → B) → ((z : A) → P (k z)) → (a : Attempt A)
    → All P (got (alone k a))
unfolding attempt got
all_alone P k h fails = tt
all_alone P k h (gives z) = (h z, tt)

pub alone_failed : {A B : Type 0} (k : A → B) (a : Attempt A) → alone k a ≡ fails → a ≡ fails
unfolding attempt
alone_failed k fails e = refl
alone_failed k (gives z) e = fails_gives e refl

pub each_known : {A B : Type 0} (f : A → Attempt (List B)) (k : A → List B) (xs : List A)
    → All (λ x. f x ≡ gives (k x)) xs
    → each f xs ≡ gives (gather k xs)
unfolding each gather attempt
each_known f k [] h = refl
each_known f k (x ∷ xs) h = rw (h.0, each_known f k xs h.1)
