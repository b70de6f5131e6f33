-- QF, before its body: every row of a gets a number of its own, which is a new iteration.
--     looked n t           the row with number n
--     map_rises            the map's inner iterations rise
--     numbers_once         each number stands once, beside the row that `looked` finds
--     new_mask, new_env      the new iterations, and what the variables hold in them
--     loops_new            the new loop holds each of them once
--     holds_new            the lifted tables hold these variables
--     all_known            each numbered row is the row that `looked` finds for its number, which is a new iteration
--     numbers_at           the numbered rows of iteration i are its items in order
use Prim.Native.Nat.{ℕ, suc, ◌<◌}
use native.Mathlib.Omega.{arith}
use mathlib.Core.Path.{◌≡◌, refl, sym, ap, ◌∙◌, subst}
use mathlib.Core.Logic.{inl, inr}
use mathlib.Core.List.{List, [], ◌∷◌, map, map-map}
use mathlib.Core.Bool.{Bool, true, false, cond}
use lib.Dec.{eqb, leb}
use lib.IntN.{ℤ, pos}
use borrow.Author.Tests.{eq-eqb}
use Rattle.laws.specs.Lists.{filter, All, In}
use Rattle.laws.specs.Sorting.{sort, Sorted, Weak}
use Rattle.laws.specs.Keyed.{Key, rising_by, within, counted, joined, filled, in_turn, AtMostOne}
use Rattle.laws.proofs.Lists.{all_any, all_kept, rising_mapped}
use Rattle.laws.proofs.Filters.{all_of, in_filter, filter_map, filter_same}
use Rattle.laws.proofs.Booleans.{by_cases}
use Rattle.laws.proofs.Filters.{all_unmapped}
use Rattle.laws.proofs.Sorting.{rising_by_weak, filter_sort, all_sort}
use Rattle.laws.proofs.Numbering.{counted_after_alone, map_in_turn, in_turn_rises, rising_once}
use Rattle.laws.specs.Keyed.{absent, present}
use Rattle.laws.proofs.Joins.{joined_right, joined_one, joined_none}
use Rattle.meaning.specs.Meaning.{Env, bind}
use Rattle.agreement.specs.Typed.{Triple, row, Vars, iter_of, place_of, by_number, together, holding}
use Rattle.agreement.specs.Typed.{all_in_order, items_alone, new_loop, map_of, lifted_by}
use Rattle.agreement.specs.Families.{Family, Mask, placed, Represents, Loops, Outside, HoldsVars}
use Rattle.agreement.proofs.Keys.{by_cell_lawful, later, later_last, before_le}
use Rattle.agreement.proofs.Tables.{sort_placed, placed_in}
use Rattle.agreement.proofs.Agreeing.{outside_in}

-- QF sorts a by iteration, then place
abbrev keys : List (Key Triple)
keys = by_number iter_of ∷ by_number place_of ∷ []

abbrev number_of : Triple × ℕ → ℕ
number_of x = x.1

weak : Weak (rising_by keys)
weak = rising_by_weak keys (by_cell_lawful _, (by_cell_lawful _, tt))

place_later : (i : ℕ) (x y : Triple) → x.iter ≡ i → y.iter ≡ i → x.place < y.place → rising_by keys y x ≡ false
place_later i x y a b h =
    later _ _ y x (before_le y.iter x.iter (omega arith))
    (later_last _ y x (before_le y.place x.place (omega arith)))

pub sort_rows : (i : ℕ) (xs : List ℤ) → sort (rising_by keys) (placed i 0 xs) ≡ placed i 0 xs
sort_rows i xs = sort_placed (rising_by keys) i (place_later i) xs

in_turn_lem : (a : List Triple) → all_in_order a ≡ in_turn 0 (sort (rising_by keys) a)
unfolding all_in_order counted
in_turn_lem a =
    counted_after_alone together (λ r. Unit {0}) (λ r s p q. refl) [] (sort (rising_by keys) a) tt
    (all_any (sort (rising_by keys) a) (λ r. tt))

-- the row of a number
front : List (Triple × ℕ) → Triple
front [] = row 0 0 (pos 0)
front (x ∷ xs) = x.0

pub looked : ℕ → List (Triple × ℕ) → Triple
looked n t = front (within number_of n t)

pub new_mask : List (Triple × ℕ) → Mask
new_mask t n = filled (within number_of n t)

numbers_rise : (a : List Triple) → Sorted (λ x y. leb (number_of x) (number_of y)) (all_in_order a)
numbers_rise a =
    subst (Sorted (λ x y. leb (number_of x) (number_of y))) (sym (in_turn_lem a)) (in_turn_rises 0 (sort (rising_by keys) a))

pub map_rises : (a : List Triple) → Sorted (λ (x y : ℕ × ℕ). leb x.1 y.1) (map_of (all_in_order a))
unfolding map_of
map_rises a =
    rising_mapped (λ (x y : ℕ × ℕ). leb y.1 x.1 ≡ false) (λ r. (r.0.iter, r.1)) (all_in_order a)
    (numbers_rise a)

pub numbers_once : (a : List Triple) (n : ℕ)
    → within number_of n (all_in_order a) ≡ cond (new_mask (all_in_order a) n) ((looked n (all_in_order a), n) ∷ []) []
unfolding looked new_mask front filled
numbers_once a n = go (rising_once number_of (all_in_order a) (numbers_rise a) n)
  where
    go : AtMostOne number_of n (within number_of n (all_in_order a))
        → within number_of n (all_in_order a) ≡ cond (new_mask (all_in_order a) n) ((looked n (all_in_order a), n) ∷ []) []
    go (absent e) = rw e
    go (present x k e) = rw e (ap (λ (j : ℕ). (x.0, j) ∷ []) (sym k))

pub loops_new : (a : List Triple) → Loops (new_loop (all_in_order a)) (new_mask (all_in_order a))
unfolding new_loop within
loops_new a n =
    filter_map (eqb n) number_of (all_in_order a)
    ∙ ap (map number_of) (numbers_once a n)
    ∙ by_cases (new_mask (all_in_order a) n) (λ e. rw e) (λ e. rw e)

-- a filter by number, through a row made of each numbered row
numbered_rows_lem : {B : Type 0} (f : Triple × ℕ → B) (a : List Triple) (n : ℕ) (p : B → Bool)
    → ((x : Triple × ℕ) → p (f x) ≡ eqb n x.1)
    → filter p (map f (all_in_order a)) ≡ cond (new_mask (all_in_order a) n) (f (looked n (all_in_order a), n) ∷ []) []
unfolding within
numbered_rows_lem f a n p h =
    filter_map p f (all_in_order a)
    ∙ ap (map f) (filter_same (λ x. p (f x)) (λ x. eqb n x.1) (all_in_order a) (all_any (all_in_order a) h))
    ∙ ap (map f) (numbers_once a n)
    ∙ by_cases (new_mask (all_in_order a) n) (λ e. rw e) (λ e. rw e)

-- the variable's table: the item alone
alone_at : (a : List Triple)
    → Represents (items_alone (all_in_order a))
    (λ n. cond (new_mask (all_in_order a) n) ((looked n (all_in_order a)).item ∷ []) [])
unfolding items_alone within placed
alone_at a n =
    numbered_rows_lem (λ r. row r.1 1 r.0.item) a n (λ r. eqb n r.iter) (λ x. refl)
    ∙ by_cases (new_mask (all_in_order a) n) (λ e. rw e) (λ e. rw e)

-- another variable's table: the rows of the outer iteration
renamed : (i n k : ℕ) (xs : List ℤ) → map (λ r. row n r.place r.item) (placed i k xs) ≡ placed n k xs
unfolding placed
renamed i n k [] = refl
renamed i n k (x ∷ xs) = ap (λ (t : List Triple). row n (suc k) x ∷ t) (renamed i n (suc k) xs)

lifted_at : (a t : List Triple) (n : ℕ)
    → within iter_of n (lifted_by (map_of (all_in_order a)) t)
    ≡ cond (new_mask (all_in_order a) n)
    (map (λ r. row n r.place r.item) (within iter_of (looked n (all_in_order a)).iter t)) []
unfolding within lifted_by map_of
lifted_at a t n =
    filter_map (λ r. eqb n r.iter) (λ r. row r.1.1 r.0.place r.0.item)
    (joined iter_of (λ s. s.0) t (map_of (all_in_order a)))
    ∙ ap (map (λ (r : Triple × (ℕ × ℕ)). row r.1.1 r.0.place r.0.item))
    (joined_right iter_of (λ s. s.0) (λ s. eqb n s.1) t (map_of (all_in_order a))
    ∙ ap (joined iter_of (λ s. s.0) t) (numbered_rows_lem (λ r. (r.0.iter, r.1)) a n (λ s. eqb n s.1) (λ x. refl)))
    ∙ by_cases (new_mask (all_in_order a) n)
    (λ e. rw (e, joined_one iter_of (λ (s : ℕ × ℕ). s.0) t ((looked n (all_in_order a)).iter, n))
    (map-map _ _ (within iter_of (looked n (all_in_order a)).iter t)))
    (λ e. rw (e, joined_none iter_of (λ (s : ℕ × ℕ). s.0) t))

rows_in_turn : (a : List Triple) → map (λ (x : Triple × ℕ). x.0) (all_in_order a) ≡ sort (rising_by keys) a
rows_in_turn a = ap (map (λ (x : Triple × ℕ). x.0)) (in_turn_lem a) ∙ map_in_turn 0 (sort (rising_by keys) a)

all_numbered : (P : Triple → Type 0) (a : List Triple) → All P a → All (λ x. P x.0) (all_in_order a)
all_numbered P a h =
    all_unmapped P (λ x. x.0) (all_in_order a) (subst (All P) (sym (rows_in_turn a)) (all_sort (rising_by keys) P a h))

pub looked_all : (P : Triple → Type 0) (a : List Triple) → All P a → (n : ℕ) → new_mask (all_in_order a) n ≡ true
    → P (looked n (all_in_order a))
unfolding within
looked_all P a h n e =
    (subst (All (λ x. P x.0))
    (numbers_once a n ∙ ap (λ (b : Bool). cond b ((looked n (all_in_order a), n) ∷ []) []) e)
    (all_kept (λ x. eqb n x.1) (λ x. P x.0) (all_in_order a) (all_numbered P a h))).0

unfoldable pub new_env : ℕ → (ℕ → Env) → List (Triple × ℕ) → ℕ → Env
new_env v ρ t n = bind v ((looked n t).item ∷ []) (ρ (looked n t).iter)

module _ (m : Mask) (a : List Triple) (s : Family) (out : Outside m s) (rep : Represents a s) where
  -- every row's item is one of its iteration's, which is one of the loop
  pub all_ours : All (λ r. (m r.iter ≡ true) × In r.item (s r.iter)) a
  unfolding within
  all_ours = all_of (λ r. (m r.iter ≡ true) × In r.item (s r.iter)) a ours
    where
      ours : (r : Triple) → In r a → (m r.iter ≡ true) × In r.item (s r.iter)
      ours r k =
          let item : In r.item (s r.iter) =
          placed_in r.iter (s r.iter) r
          (subst (In r) (rep r.iter) (in_filter (λ q. eqb r.iter q.iter) a r k
          (eq-eqb r.iter r.iter refl))) in
          (outside_in m s out r.iter r.item item, item)

  pub holds_new : (v : ℕ) (ρ : ℕ → Env) (vars : Vars) → HoldsVars m ρ vars
      → HoldsVars (new_mask (all_in_order a)) (new_env v ρ (all_in_order a))
      (holding v (items_alone (all_in_order a)) (λ u. lifted_by (map_of (all_in_order a)) (vars u)))
  unfolding new_env bind holding placed
  holds_new v ρ vars holds u n =
      by_cases (eqb u v)
      (λ e. rw e (alone_at a n))
      (λ e. rw e (lifted_at a (vars u) n
      ∙ by_cases (new_mask (all_in_order a) n)
      (λ k.
      let o = (looked n (all_in_order a)).iter in
      let here : m o ≡ true = (looked_all _ a all_ours n k).0 in
      rw k
      (ap (map (λ r. row n r.place r.item)) (holds u o ∙ ap (λ (b : Bool). placed o 0 (cond b (ρ o u) [])) here)
      ∙ renamed o n 0 (ρ o u)))
      (λ k. rw k)))

  pub all_known : All (λ x. (looked x.1 (all_in_order a) ≡ x.0) × (new_mask (all_in_order a) x.1 ≡ true))
      (all_in_order a)
  unfolding within
  all_known = all_of _ (all_in_order a) known
    where
      known : (x : Triple × ℕ) → In x (all_in_order a)
          → (looked x.1 (all_in_order a) ≡ x.0) × (new_mask (all_in_order a) x.1 ≡ true)
      known x k =
          let there =
          subst (In x) (numbers_once a x.1)
          (in_filter (λ y. eqb x.1 y.1) (all_in_order a) x k (eq-eqb x.1 x.1 refl)) in
          by_cases (new_mask (all_in_order a) x.1)
          (λ e. (only (rw e at there), e))
          (λ e. absurd (rw e at there))
        where
          only : In x ((looked x.1 (all_in_order a), x.1) ∷ []) → looked x.1 (all_in_order a) ≡ x.0
          only (inl e) = sym (ap (λ (y : Triple × ℕ). y.0) e)
          only (inr h) = absurd h

  pub numbers_at : (i : ℕ) → map (λ (x : Triple × ℕ). x.0) (within (λ x. x.0.iter) i (all_in_order a))
      ≡ placed i 0 (s i)
  unfolding within
  numbers_at i =
      sym (filter_map (λ r. eqb i r.iter) (λ (x : Triple × ℕ). x.0) (all_in_order a))
      ∙ ap (filter (λ r. eqb i r.iter)) (rows_in_turn a)
      ∙ filter_sort (rising_by keys) weak (λ r. eqb i r.iter) a
      ∙ ap (sort (rising_by keys)) (rep i)
      ∙ sort_rows i (s i)
