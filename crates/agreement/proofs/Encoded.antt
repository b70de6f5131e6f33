-- Each operator of encoded rows makes the encoding of what the typed function makes of the rows.
--     attach_encoded, project_encoded       RA, RP
--     same_row_self                          a row is equal to itself
--     minus_self, minus_encoded             RD: of a table with itself; of loops
--     select_encoded                        RS
--     join_encoded                          RJ
--     number_encoded                        RN
--     added_encoded                         RF, RO
--     column_encoded, numbers_encoded       a column: of any cells; of numbers
--     counts_encoded                        RC
--     items_encoded, truths_encoded         RE
--     once_encoded                          RK
--     steps_encoded                         RX
use Prim.Native.Nat.{ℕ, suc}
use mathlib.Core.Path.{◌≡◌, refl, sym, ap, ap₂, ◌∙◌}
use mathlib.Core.List.{List, [], ◌∷◌, ◌++◌, map}
use mathlib.Core.Bool.{Bool, true, not, cond, and-true}
use lib.Dec.{eqb}
use lib.IntN.{ℤ, pos}
use lib.ListN.{length, length-map}
use Rattle.cells.specs.Cell.{same, true_cell, truth_cell}
use Rattle.codes.specs.declared.Axis.{Axis}
use Rattle.codes.specs.declared.Test.{Test}
use Rattle.laws.specs.Lists.{filter, any, firsts}
use Rattle.laws.specs.Sorting.{sort}
use Rattle.laws.specs.Keyed.{Key, rising_by, counted_after, counted, joined, numbers_in, within, without, unique}
use Rattle.laws.specs.Attempt.{Attempt, fails, gives, attempt, each}
use Rattle.meaning.specs.World.{World}
use Rattle.meaning.specs.Operators.{Row, Table, cell, column, same_row, attach, project, minus, select, join, rising}
use Rattle.meaning.specs.Operators.{numbered_after, in_group, number, added, groups, group_of, counts, items_in_order}
use Rattle.meaning.specs.Operators.{truths, once, steps}
use Rattle.agreement.specs.Typed as T
use Rattle.agreement.specs.Typed.{Triple, iter_of, place_of, item_of, extended, truths_of, counts_of, steps_of}
use Rattle.agreement.specs.Encoded.{encode, encode_number, encode_cell, encode_pair, encode_numbers, encode_item}
use Rattle.agreement.specs.Encoded.{encode_choice}
use Rattle.agreement.proofs.EncodedLists.{mapped, mapped_once, filter_through, any_through}
use Rattle.laws.proofs.Booleans.{or_right}
use Rattle.cells.proofs.Cells.{same_refl}
use Rattle.agreement.proofs.EncodedLists.{count_through}
use Rattle.agreement.proofs.EncodedLists.{firsts_through, gather_through, sort_through, each_through}

-- every row by itself
module _ {A : Type 0} (f : A → Row) where
  pub attach_encoded : (z : ℤ) (t : List A) → attach (map f t) z ≡ map (λ r. f r ++ (z ∷ [])) t
  unfolding attach
  attach_encoded z t = mapped_once _ f _ (λ r. refl) t

  pub project_encoded : (cs : List ℕ) (t : List A) → project (map f t) cs ≡ map (λ r. map (cell (f r)) cs) t
  unfolding project
  project_encoded cs t = mapped_once _ f _ (λ r. refl) t

pub same_row_self : (r : Row) → same_row r r ≡ true
unfolding same_row
same_row_self [] = refl
same_row_self (z ∷ r) = rw (same_refl z, same_row_self r)

-- every row of t stands in u
minus_inside : (t u : Table) → ((r : Row) → any (same_row r) t ≡ true → any (same_row r) u ≡ true) → minus t u ≡ []
unfolding minus filter any
minus_inside [] u h = refl
minus_inside (r ∷ t) u h =
    rw (h r (rw (same_row_self r)))
    (minus_inside t u (λ s e. h s (or_right (same_row s r) (any (same_row s) t) e)))

pub minus_self : (t : Table) → minus t t ≡ []
minus_self t = minus_inside t t (λ r e. e)

pub minus_encoded : (l u : List ℕ) → minus (map encode_number l) (map encode_number u) ≡ map encode_number (without l u)
unfolding minus without same_row same
minus_encoded l u =
    filter_through encode_number _ (λ i. not (any (eqb i) u))
    (λ i. ap not (any_through encode_number (same_row (encode_number i)) (eqb i) (λ k. and-true (eqb i k)) u)) l

module _ {A : Type 0} (f : A → Row) where
  pub select_encoded : (c : ℕ) (p : A → Bool) → ((r : A) → same (cell (f r) c) true_cell ≡ p r) → (t : List A)
      → select (map f t) c ≡ map f (filter p t)
  unfolding select
  select_encoded c p e t = filter_through f _ p e t

-- rows with equal cells are rows with equal numbers
same_numbers : (y z : ℤ) (m n : ℕ) → y ≡ pos m → z ≡ pos n → same y z ≡ eqb m n
unfolding same
same_numbers y z m n e d = rw (e, d)

module _ {A B : Type 0} (f : A → Row) (g : B → Row) where
  pub join_encoded : (c d : ℕ) (i : A → ℕ) (k : B → ℕ) → ((r : A) → cell (f r) c ≡ pos (i r))
      → ((s : B) → cell (g s) d ≡ pos (k s)) → (t : List A) (u : List B)
      → join (map f t) c (map g u) d ≡ map (encode_pair f g) (joined i k t u)
  unfolding join joined
  join_encoded c d i k e h t u =
      gather_through f (encode_pair f g) _ _
      (λ r.
      ap (map (λ (s : Row). f r ++ s))
      (filter_through g _ (λ s. eqb (i r) (k s)) (λ s. same_numbers _ _ (i r) (k s) (e r) (h s)) u)
      ∙ mapped (λ (s : Row). f r ++ s) g (encode_pair f g) (λ s. (r, s)) (λ s. refl)
      (filter (λ s. eqb (i r) (k s)) u)) t

-- numbering: the counter is one more cell
module _ {A : Type 0} (f : A → Row) (p : Row → Row → Bool) (q : A → A → Bool)
    (e : (r s : A) → p (f r) (f s) ≡ q r s) where
  numbered_encoded : (earlier t : List A)
      → numbered_after p (map f earlier) (map f t) ≡ map (encode_pair f encode_number) (counted_after q earlier t)
  unfolding numbered_after counted_after
  numbered_encoded earlier [] = refl
  numbered_encoded earlier (r ∷ t) =
      ap₂ ◌∷◌
      (ap (λ (n : ℕ). f r ++ (pos (suc n) ∷ [])) (count_through f (p (f r)) (q r) (e r) earlier))
      (numbered_encoded (r ∷ earlier) t)

module _ {A : Type 0} (f : A → Row) (group : A → A → Bool) (keys : List (Key A)) where
  pub number_encoded : (p : ℕ) (ks : List ℕ) → ((r s : A) → in_group p (f r) (f s) ≡ group r s)
      → ((r s : A) → rising (cond (eqb p 255) ks (p ∷ ks)) (f r) (f s) ≡ rising_by keys r s) → (t : List A)
      → number (map f t) p ks ≡ map (encode_pair f encode_number) (counted group keys t)
  unfolding number counted
  number_encoded p ks g h t =
      ap (numbered_after (in_group p) []) (sort_through f _ (rising_by keys) h t)
      ∙ numbered_encoded f (in_group p) group g [] (sort (rising_by keys) t)

-- a function of each row is one more cell
module _ {A : Type 0} (f : A → Row) (p : Row → Attempt ℤ) (q : A → Attempt ℤ) (e : (r : A) → p (f r) ≡ q r) where
  one_added : (r : A) (a : Attempt ℤ)
      → attempt a (λ z. gives ((f r ++ (z ∷ [])) ∷ []))
      ≡ attempt (attempt a (λ z. gives ((r, z) ∷ []))) (λ ys. gives (map (encode_pair f encode_cell) ys))
  unfolding attempt
  one_added r fails = refl
  one_added r (gives z) = refl

  pub added_encoded : (t : List A)
      → added p (map f t) ≡ attempt (extended q t) (λ u. gives (map (encode_pair f encode_cell) u))
  unfolding added extended
  added_encoded t =
      each_through f (encode_pair f encode_cell) _ _ (λ r. rw (e r) (one_added r (q r))) t

-- groups
module _ {A : Type 0} (f : A → Row) (c : ℕ) where
  pub column_encoded : (h : A → ℤ) → ((r : A) → cell (f r) c ≡ h r) → (t : List A) → column (map f t) c ≡ map h t
  unfolding column
  column_encoded h e t = mapped_once (λ (r : Row). cell r c) f h e t

  module _ (i : A → ℕ) (e : (r : A) → cell (f r) c ≡ pos (i r)) where
    pub numbers_encoded : (t : List A) → column (map f t) c ≡ map pos (map i t)
    unfolding column
    numbers_encoded t = mapped (λ (r : Row). cell r c) f pos i e t

    groups_encoded : (t : List A) → groups (map f t) c ≡ map pos (numbers_in i t)
    unfolding groups numbers_in same
    groups_encoded t =
        ap (firsts same) (numbers_encoded t) ∙ firsts_through pos same eqb (λ m n. refl) (map i t)

    group_of_encoded : (n : ℕ) (t : List A) → group_of (map f t) c (pos n) ≡ map f (within i n t)
    unfolding group_of within
    group_of_encoded n t = filter_through f _ (λ r. eqb n (i r)) (λ r. same_numbers _ _ n (i r) refl (e r)) t

pub counts_encoded : (t : List Triple) → counts (map encode t) 0 ≡ map encode_numbers (counts_of t)
unfolding counts counts_of
counts_encoded t =
    ap (map (λ x. x ∷ pos (length (group_of (map encode t) 0 x)) ∷ [])) (groups_encoded encode 0 iter_of (λ r. refl) t)
    ∙ mapped _ pos encode_numbers (λ i. (i, length (within iter_of i t)))
    (λ i.
    ap (λ (n : ℕ). pos i ∷ pos n ∷ [])
    (ap length (group_of_encoded encode 0 iter_of (λ r. refl) i t) ∙ length-map (within iter_of i t) encode))
    (numbers_in iter_of t)

pub items_encoded : (t : List Triple) → items_in_order (map encode t) ≡ T.items_in_order t
unfolding items_in_order T.items_in_order rising rising_by
items_encoded t =
    ap (λ (u : Table). column u 2)
    (sort_through encode (rising (1 ∷ [])) (rising_by (T.by_number place_of ∷ [])) (λ r s. refl) t)
    ∙ column_encoded encode 2 item_of (λ r. refl) (sort (rising_by (T.by_number place_of ∷ [])) t)

-- the rows of each group, under what the world says of them
module _ {A B : Type 0} (g : B → Row) where
  one_group : (make : A → List B) (rows : A → Table) → ((x : A) → rows x ≡ map g (make x)) → (a : Attempt A)
      → attempt a (λ x. gives (rows x)) ≡ attempt (attempt a (λ x. gives (make x))) (λ ys. gives (map g ys))
  unfolding attempt
  one_group make rows e fails = refl
  one_group make rows e (gives x) = ap gives (e x)

pub truths_encoded : (w : World) (t : List Triple)
    → truths w (map encode t) ≡ attempt (truths_of w t) (λ u. gives (map encode_choice u))
unfolding truths truths_of
truths_encoded w t =
    ap (each _) (groups_encoded encode 0 iter_of (λ r. refl) t)
    ∙ each_through pos encode_choice _ _
    (λ i.
    ap (λ (xs : List ℤ). attempt (w.truth xs) (λ b. gives ((pos i ∷ truth_cell b ∷ []) ∷ [])))
    (ap items_in_order (group_of_encoded encode 0 iter_of (λ r. refl) i t) ∙ items_encoded (within iter_of i t))
    ∙ one_group encode_choice (λ b. (i, b) ∷ []) _ (λ b. refl)
    (w.truth (T.items_in_order (within iter_of i t))))
    (numbers_in iter_of t)

pub once_encoded : (ns : List ℕ) → once (map pos ns) ≡ unique ns
unfolding once unique same
once_encoded [] = refl
once_encoded (n ∷ ns) = rw (any_through pos (same (pos n)) (eqb n) (λ m. refl) ns, once_encoded ns)

pub steps_encoded : (w : World) (axis : Axis) (test : Test) (t : List (ℕ × ℤ))
    → steps w axis test (map encode_item t) ≡ attempt (steps_of w axis test t) (λ u. gives (map encode_item u))
unfolding steps steps_of
steps_encoded w axis test t =
    ap (each _) (groups_encoded encode_item 0 (λ r. r.0) (λ r. refl) t)
    ∙ each_through pos encode_item _ _
    (λ i.
    ap (λ (xs : List ℤ). attempt (w.step axis test xs) (λ ys. gives (map (λ y. pos i ∷ y ∷ []) ys)))
    (ap (λ (u : Table). column u 1) (group_of_encoded encode_item 0 (λ r. r.0) (λ r. refl) i t)
    ∙ column_encoded encode_item 1 (λ r. r.1) (λ r. refl) (within (λ r. r.0) i t))
    ∙ one_group encode_item (map (λ y. (i, y))) _
    (λ ys. sym (mapped_once encode_item (λ y. (i, y)) (λ y. pos i ∷ y ∷ []) (λ y. refl) ys))
    (w.step axis test (map (λ r. r.1) (within (λ r. r.0) i t))))
    (numbers_in (λ r. r.0) t)
