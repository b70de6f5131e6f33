-- QO: a function of two sides, each of one item at most.
--     AtMostOneItem xs, Many xs   at most one item; two or more
--     short                    where no iteration has two rows, each side is short
--     pair_val r                the function of a pair of rows
--     pairs i xs ys            the pairs that the join makes in iteration i
--     pairs_mean, pairs_placed, pairs_fail     what the function makes of them is what `apply` gives, in place
--     rule_pairs               the agreement where both sides are short
--     rule_many                .. and where an iteration has a side of two items: both fail
--     rule_O                   the agreement of QO
use Prim.Native.Nat.{ℕ}
use mathlib.Core.Path.{◌≡◌, refl, sym, ap, ap₂, ◌∙◌, subst}
use mathlib.Core.Logic.{inl, inr}
use mathlib.Core.List.{List, [], ◌∷◌, ◌++◌, map}
use mathlib.Core.Bool.{true, false}
use lib.IntN.{ℤ}
use Rattle.codes.specs.declared.Function.{Function}
use Rattle.laws.specs.Lists.{gather, All, In}
use Rattle.laws.specs.Keyed.{within, joined, unique}
use Rattle.laws.proofs.Filters.{in_none, tails, no_cons}
use Rattle.laws.proofs.Booleans.{by_cases}
use Rattle.laws.proofs.Joins.{joined_at}
use Rattle.laws.proofs.Groups.{unique_true, unique_false}
use Rattle.laws.specs.Attempt.{Attempt, fails, gives, attempt, each, provided}
use Rattle.meaning.specs.World.{World}
use Rattle.meaning.specs.Meaning.{apply}
use Rattle.agreement.specs.Typed.{Triple, row, iter_of, checked, facing, sem_o}
use Rattle.agreement.specs.Families.{Family, Mask, placed, Represents, Outside, Agree, failing}
use Rattle.agreement.proofs.Attempts.{got, extended_then, each_map, alone, alone_gives}
use Rattle.agreement.proofs.Attempts.{alone_fails, all_alone}
use Rattle.agreement.proofs.Agreeing.{agree_each, AllGiven, outside_member}

-- at most one item
abbrev AtMostOneItem : List ℤ → Type 0
AtMostOneItem [] = Unit {0}
AtMostOneItem (x ∷ []) = Unit {0}
AtMostOneItem (x ∷ y ∷ zs) = ⊥

record Many (xs : List ℤ) : Type 0 where
  first : ℤ
  second : ℤ
  others : List ℤ
  here : xs ≡ first ∷ second ∷ others

many : (i : ℕ) (xs : List ℤ) (r q : Triple) (rs : List Triple) → placed i 0 xs ≡ r ∷ q ∷ rs → Many xs
unfolding placed
many i [] r q rs e = no_cons e
many i (x ∷ []) r q rs e = no_cons (tails e)
many i (x ∷ y ∷ zs) r q rs e = record { first = x; second = y; others = zs; here = refl }

-- a table in which no iteration has two rows; or one in which an iteration has two items
short : (a : List Triple) (s : Family) → Represents a s → unique (map iter_of a) ≡ true → (i : ℕ) → AtMostOneItem (s i)
unfolding placed
short a s rep u i = go (s i) (rep i)
  where
    go : (xs : List ℤ) → within iter_of i a ≡ placed i 0 xs → AtMostOneItem xs
    go [] e = tt
    go (x ∷ []) e = tt
    go (x ∷ y ∷ zs) e = unique_true iter_of a u i (row i 1 x) (row i 2 y) (placed i 2 zs) e

module _ (w : World) (f : Function) where
  apply_left : (xs ys : List ℤ) → Many xs → apply w f xs ys ≡ fails
  unfolding apply
  apply_left xs ys m = rw m.here

  apply_right : (xs ys : List ℤ) → Many ys → apply w f xs ys ≡ fails
  unfolding apply
  apply_right [] ys m = rw m.here
  apply_right (x ∷ []) ys m = rw m.here
  apply_right (x ∷ u ∷ xs) ys m = refl

  pair_val : Triple × Triple → Attempt (List Triple)
  pair_val r = alone (row r.0.iter r.0.place) (w.arith f r.0.item r.1.item)

  iter_of_pair : Triple × Triple → ℕ
  iter_of_pair r = r.0.iter

  own : (r : Triple × Triple) → All (λ x. iter_of_pair r ≡ x.iter) (got (pair_val r))
  unfolding pair_val iter_of_pair
  own r =
      all_alone (λ x. r.0.iter ≡ x.iter) (row r.0.iter r.0.place) (λ z. refl)
      (w.arith f r.0.item r.1.item)

  -- the pairs of one iteration
  pairs : ℕ → List ℤ → List ℤ → List (Triple × Triple)
  pairs i xs ys = gather (λ r. map (λ s. (r, s)) (placed i 0 ys)) (placed i 0 xs)

  module _ (i : ℕ) where
    pairs_mean : (xs ys : List ℤ) → AtMostOneItem xs → AtMostOneItem ys
        → AllGiven iter_of_pair pair_val own (pairs i xs ys)
        → apply w f xs ys ≡ gives (got (apply w f xs ys))
    unfolding apply pairs gather placed pair_val got
    pairs_mean [] [] h k g = refl
    pairs_mean [] (y ∷ []) h k g = refl
    pairs_mean [] (y ∷ z ∷ zs) h k g = absurd k
    pairs_mean (x ∷ []) [] h k g = refl
    pairs_mean (x ∷ []) (y ∷ []) h k g = alone_gives (row i 1) (λ z. z) (w.arith f x y) g.0
    pairs_mean (x ∷ []) (y ∷ z ∷ zs) h k g = absurd k
    pairs_mean (x ∷ u ∷ xs) ys h k g = absurd h

    one_placed : (a : Attempt ℤ) → got (alone (row i 1) a) ++ [] ≡ placed i 0 (got (alone (λ z. z) a))
    unfolding attempt got placed
    one_placed fails = refl
    one_placed (gives z) = refl

    pairs_placed : (xs ys : List ℤ) → AtMostOneItem xs → AtMostOneItem ys
        → gather (λ r. got (pair_val r)) (pairs i xs ys) ≡ placed i 0 (got (apply w f xs ys))
    unfolding apply pairs gather placed pair_val got
    pairs_placed [] [] h k = refl
    pairs_placed [] (y ∷ []) h k = refl
    pairs_placed [] (y ∷ z ∷ zs) h k = absurd k
    pairs_placed (x ∷ []) [] h k = refl
    pairs_placed (x ∷ []) (y ∷ []) h k = one_placed (w.arith f x y)
    pairs_placed (x ∷ []) (y ∷ z ∷ zs) h k = absurd k
    pairs_placed (x ∷ u ∷ xs) ys h k = absurd h

    pairs_fail : (xs ys : List ℤ) → AtMostOneItem xs → AtMostOneItem ys → (r : Triple × Triple) → In r (pairs i xs ys)
        → pair_val r ≡ fails
        → apply w f xs ys ≡ fails
    unfolding apply pairs gather placed pair_val
    pairs_fail [] ys h k r g e = absurd g
    pairs_fail (x ∷ []) [] h k r g e = absurd g
    pairs_fail (x ∷ []) (y ∷ []) h k r (inl d) e =
        alone_fails (row i 1) (λ z. z) (w.arith f x y) (sym (ap pair_val d) ∙ e)
    pairs_fail (x ∷ []) (y ∷ []) h k r (inr g) e = absurd g
    pairs_fail (x ∷ []) (y ∷ z ∷ zs) h k r g e = absurd k
    pairs_fail (x ∷ u ∷ xs) ys h k r g e = absurd h

  module _ (m : Mask) (a b : List Triple) (s u : Family) (os : Outside m s) (ou : Outside m u) (ra : Represents a s)
      (rb : Represents b u) where
    pairs_at : (i : ℕ) → within iter_of_pair i (joined iter_of iter_of a b) ≡ pairs i (s i) (u i)
    unfolding within pairs iter_of_pair
    pairs_at i =
        joined_at iter_of iter_of i a b
        ∙ ap₂ (λ (x y : List Triple). gather (λ r. map (λ q. (r, q)) y) x) (ra i) (rb i)

    -- both sides short
    rule_pairs : unique (map iter_of a) ≡ true → unique (map iter_of b) ≡ true
        → Agree m (λ i. apply w f (s i) (u i)) (each pair_val (joined iter_of iter_of a b))
    unfolding apply got pairs gather placed
    rule_pairs ua ub =
        agree_each iter_of_pair pair_val own m (λ i. apply w f (s i) (u i)) (λ i. got (apply w f (s i) (u i)))
        (joined iter_of iter_of a b)
        (λ i e. rw (os i e, ou i e))
        (λ i h k. pairs_mean i (s i) (u i) (short a s ra ua i) (short b u rb ub i)
        (subst (AllGiven iter_of_pair pair_val own) (pairs_at i) h))
        (λ i h. ap (gather (λ r. got (pair_val r))) (pairs_at i)
        ∙ pairs_placed i (s i) (u i) (short a s ra ua i) (short b u rb ub i))
        (λ i r k e.
        let pair : In r (pairs i (s i) (u i)) = subst (In r) (pairs_at i) k in (
          by_cases (m i) (λ d. d) (λ d. in_none r (pairs i (s i) (u i))
              (ap (λ (xs : List ℤ). pairs i xs (u i)) (os i d)) pair),
          pairs_fail i (s i) (u i) (short a s ra ua i) (short b u rb ub i) r pair e,
        ))

    -- a side of two items somewhere: both fail
    rule_many : (c : List Triple) (t : Family) → Outside m t → Represents c t → unique (map iter_of c) ≡ false
        → ((i : ℕ) → Many (t i) → apply w f (s i) (u i) ≡ fails) → sem_o w f a b ≡ fails
        → Agree m (λ i. apply w f (s i) (u i)) (sem_o w f a b)
    rule_many c t out rep e bad run =
        let two = unique_false iter_of c e in
        let found =
        many two.shared (t two.shared) two.first two.second two.others
        (sym (rep two.shared) ∙ two.here) in
        failing two.shared
        (outside_member m t out two.shared found.first (found.second ∷ found.others) found.here)
        (bad two.shared found) run

    tables_checked : unique (map iter_of a) ≡ true → unique (map iter_of b) ≡ true
        → sem_o w f a b ≡ each pair_val (joined iter_of iter_of a b)
    unfolding sem_o checked provided attempt facing pair_val
    tables_checked ua ub =
        rw (ua, ub)
        (extended_then (λ r. w.arith f r.1.0 r.1.1) (λ r. row r.0.0.0 r.0.0.1 r.1) (facing a b)
        ∙ each_map _ (λ r. ((r.0.iter, r.0.place), (r.0.item, r.1.item))) (joined iter_of iter_of a b))

    fails_left : unique (map iter_of a) ≡ false → sem_o w f a b ≡ fails
    unfolding sem_o checked provided attempt
    fails_left e = rw e

    fails_right : unique (map iter_of a) ≡ true → unique (map iter_of b) ≡ false → sem_o w f a b ≡ fails
    unfolding sem_o checked provided attempt
    fails_right e d = rw (e, d)

    pub rule_O : Agree m (λ i. apply w f (s i) (u i)) (sem_o w f a b)
    rule_O =
        by_cases (unique (map iter_of a))
        (λ e. by_cases (unique (map iter_of b))
        (λ d. subst (Agree m (λ i. apply w f (s i) (u i))) (sym (tables_checked e d)) (rule_pairs e d))
        (λ d. rule_many b u ou rb d (λ i h. apply_right (s i) (u i) h) (fails_right e d)))
        (λ e. rule_many a s os ra e (λ i h. apply_left (s i) (u i) h) (fails_left e))
