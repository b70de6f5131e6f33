-- Functions on lists of rows of any kind: joining, numbering and ordering by keys, where nothing is known of cells.
--     Key A                      one key of an order: which row stands before which, and which rows are equal in it
--     rising_by ks r s            row r stands before row s by the keys ks, first key first
--     counted_after g earlier t   each row with one more than the rows of its group g before it, `earlier` among them
--     counted g ks t             the rows in rising order, ties as they stood, each with its number within its group
--     joined c d t u             for each row of t, each row of u with an equal number; both rows as a pair
--     numbers_in c t              the different numbers in column c, each where it first appears
--     within c i t               the rows of t whose column c holds i
--     without l u                the numbers of l that are not in u
--     unique ns                  no number occurs twice
--     LawfulKey k                a key with a strict weak order, whose ties are its equal rows
--     in_turn n xs                xs with the numbers n + 1, n + 2, ..
--     AtMostOne c n xs           xs has no member, or one, whose column c is n
--     Twice c t                  a number that two rows of t hold
--     filled xs                  xs has a member
use Rattle.std.specs.Prelude.{ℕ, suc, ◌≡◌, List, [], ◌∷◌, map, Bool, true, false, not, ◌&&◌, ◌||◌, eqb}
use Rattle.laws.specs.Lists.{filter, any, count, gather, firsts}
use Rattle.laws.specs.Sorting.{sort, Weak, tied}

pub record Key (A : Type 0) : Type 0 where
  pub before : A → A → Bool
  pub same : A → A → Bool

module _ {A : Type 0} where
  unfoldable pub rising_by : List (Key A) → A → A → Bool
  rising_by [] r s = false
  rising_by (k ∷ ks) r s = k.before r s || (k.same r s && rising_by ks r s)

  unfoldable pub counted_after : (A → A → Bool) → List A → List A → List (A × ℕ)
  counted_after group earlier [] = []
  counted_after group earlier (r ∷ rs) = (r, suc (count (group r) earlier)) ∷ counted_after group (r ∷ earlier) rs

  unfoldable pub counted : (A → A → Bool) → List (Key A) → List A → List (A × ℕ)
  counted group ks t = counted_after group [] (sort (rising_by ks) t)

  unfoldable pub numbers_in : (A → ℕ) → List A → List ℕ
  numbers_in c t = firsts eqb (map c t)

  unfoldable pub within : (A → ℕ) → ℕ → List A → List A
  within c i t = filter (λ r. eqb i (c r)) t

unfoldable pub joined : {A B : Type 0} → (A → ℕ) → (B → ℕ) → List A → List B → List (A × B)
joined c d t u = gather (λ r. map (λ s. (r, s)) (filter (λ s. eqb (c r) (d s)) u)) t

unfoldable pub without : List ℕ → List ℕ → List ℕ
without l u = filter (λ i. not (any (eqb i) u)) l

unfoldable pub unique : List ℕ → Bool
unique [] = true
unique (n ∷ ns) = not (any (eqb n) ns) && unique ns

pub record LawfulKey {A : Type 0} (k : Key A) : Type 0 where
  pub weak : Weak k.before
  pub ties : (x y : A) → k.same x y ≡ tied k.before x y

module _ {A : Type 0} where
  unfoldable pub in_turn : ℕ → List A → List (A × ℕ)
  in_turn n [] = []
  in_turn n (x ∷ xs) = (x, suc n) ∷ in_turn (suc n) xs

pub data AtMostOne {A : Type 0} (c : A → ℕ) (n : ℕ) (xs : List A) : Type 0 where
  absent : xs ≡ [] → AtMostOne c n xs
  present : (x : A) → n ≡ c x → xs ≡ x ∷ [] → AtMostOne c n xs

pub record Twice {A : Type 0} (c : A → ℕ) (t : List A) : Type 0 where
  pub shared : ℕ
  pub first : A
  pub second : A
  pub others : List A
  pub here : within c shared t ≡ first ∷ second ∷ others

unfoldable pub filled : {A : Type 0} → List A → Bool
filled [] = false
filled (x ∷ xs) = true
