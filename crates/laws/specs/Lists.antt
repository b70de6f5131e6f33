-- Functions on lists that document 01's definitions are written with. Nothing here knows of queries or tables.
--     filter p xs       the members of xs that pass p, in order
--     any p xs          some member of xs passes p
--     all p xs          every member of xs passes p
--     count p xs        how many members of xs pass p
--     gather f xs       f of the first member, then f of the second, .. one after another
--     firsts same xs    the different members of xs, each where it first appears
--     below n           0, 1, .. n - 1
--     sum xs            the numbers of xs added up
--     All P xs          every member of xs is P
--     Rising R xs       every member of xs is in R to each member after it
--     In x xs           x is a member of xs
use Rattle.std.specs.Prelude.{ℕ, zero, suc, ◌+◌, ◌≡◌, ◌⊎◌, List, [], ◌∷◌, ◌++◌, Bool, true, false, not, cond, ◌&&◌, ◌||◌}

module _ {A : Type 0} where
  unfoldable pub filter : (A → Bool) → List A → List A
  filter p [] = []
  filter p (x ∷ xs) = cond (p x) (x ∷ filter p xs) (filter p xs)

  unfoldable pub any : (A → Bool) → List A → Bool
  any p [] = false
  any p (x ∷ xs) = p x || any p xs

  unfoldable pub all : (A → Bool) → List A → Bool
  all p [] = true
  all p (x ∷ xs) = p x && all p xs

  unfoldable pub count : (A → Bool) → List A → ℕ
  count p [] = zero
  count p (x ∷ xs) = cond (p x) (suc (count p xs)) (count p xs)

  unfoldable pub firsts : (A → A → Bool) → List A → List A
  firsts same [] = []
  firsts same (x ∷ xs) = x ∷ filter (λ y. not (same x y)) (firsts same xs)

unfoldable pub gather : {A B : Type 0} → (A → List B) → List A → List B
gather f [] = []
gather f (x ∷ xs) = f x ++ gather f xs

unfoldable pub below : ℕ → List ℕ
below zero = []
below (suc n) = below n ++ (n ∷ [])

unfoldable pub sum : List ℕ → ℕ
sum [] = zero
sum (n ∷ ns) = n + sum ns

module _ {A : Type 0} where
  abbrev pub All : (A → Type 0) → List A → Type 0
  All P [] = Unit {0}
  All P (x ∷ xs) = P x × All P xs

  abbrev pub Rising : (A → A → Type 0) → List A → Type 0
  Rising R [] = Unit {0}
  Rising R (x ∷ xs) = All (R x) xs × Rising R xs

  abbrev pub In : A → List A → Type 0
  In x [] = ⊥
  In x (y ∷ ys) = (x ≡ y) ⊎ In x ys
