-- Rows of one iteration, and the numbering that brings them to places 1, 2, ..
--     placed_iter, placed_behind   a row of `placed i n xs` is of iteration i, at a place past n
--     placed_in                    a row's item is one of xs
--     placed_sorted                such rows are sorted by any order that looks at places last
--     sort_placed                  .. and so are their own sort
--     renumber                     rows of one iteration numbered in turn are placed
--     numbered_at                  after numbering within iterations, the rows of i are the items of i in rising order
use Prim.Native.Nat.{ℕ, suc, ◌<◌}
use native.Mathlib.Omega.{arith}
use mathlib.Core.Path.{◌≡◌, refl, sym, ap, ap₂, ◌∙◌, subst}
use mathlib.Core.List.{List, [], ◌∷◌, map}
use mathlib.Core.Bool.{Bool, true, false}
use lib.Dec.{eqb}
use lib.IntN.{ℤ}
use lib.ListN.{length}
use borrow.Author.Tests.{eqb-true, eq-eqb}
use Rattle.laws.specs.Lists.{filter, All, In}
use Rattle.laws.specs.Sorting.{sort, Sorted, Weak}
use Rattle.laws.specs.Keyed.{Key, rising_by, counted, counted_after, within, LawfulKey, in_turn}
use Rattle.laws.proofs.Lists.{all_map}
use Rattle.laws.proofs.Filters.{in_map, map_id, all_filter, filter_map}
use Rattle.laws.proofs.Sorting.{rising_by_weak, filter_sort, all_sort, sort_sorted}
use Rattle.laws.proofs.Numbering.{filter_counted_after, counted_after_alone}
use Rattle.agreement.specs.Typed.{Triple, row, iter_of, item_of, grouped}
use Rattle.agreement.specs.Families.{placed}

pub placed_iter : (i n : ℕ) (zs : List ℤ) → All (λ r. r.iter ≡ i) (placed i n zs)
unfolding placed
placed_iter i n [] = tt
placed_iter i n (z ∷ zs) = (refl, placed_iter i (suc n) zs)

pub placed_behind : (i n : ℕ) (zs : List ℤ) → All (λ r. n < r.place) (placed i n zs)
unfolding placed
placed_behind i n [] = tt
placed_behind i n (z ∷ zs) =
    (omega arith, all_map (placed i (suc n) zs) (λ r h. omega arith) (placed_behind i (suc n) zs))

pub map_placed : (i n : ℕ) (zs : List ℤ) → map item_of (placed i n zs) ≡ zs
unfolding placed
map_placed i n [] = refl
map_placed i n (z ∷ zs) = ap (λ (r : List ℤ). z ∷ r) (map_placed i (suc n) zs)

pub placed_in : (i : ℕ) (zs : List ℤ) (r : Triple) → In r (placed i 0 zs) → In r.item zs
placed_in i zs r h = subst (In r.item) (map_placed i 0 zs) (in_map item_of (placed i 0 zs) r h)

pub length_placed : (i n : ℕ) (zs : List ℤ) → length (placed i n zs) ≡ length zs
unfolding placed
length_placed i n [] = refl
length_placed i n (z ∷ zs) = ap suc (length_placed i (suc n) zs)

-- an order on any rows, of which one is placed for each item
module _ {A : Type 0} (f : Triple → A) (before : A → A → Bool) (i : ℕ)
    (last : (x y : Triple) → x.iter ≡ i → y.iter ≡ i → x.place < y.place → before (f y) (f x) ≡ false) where
  pub placed_sorted : (n : ℕ) (zs : List ℤ) → Sorted before (map f (placed i n zs))
  unfolding placed
  placed_sorted n [] = tt
  placed_sorted n (z ∷ zs) =
      (behind (placed i (suc n) zs) (placed_iter i (suc n) zs) (placed_behind i (suc n) zs), placed_sorted (suc n) zs)
    where
      behind : (rs : List Triple) → All (λ r. r.iter ≡ i) rs → All (λ r. suc n < r.place) rs
          → All (λ y. before y (f (row i (suc n) z)) ≡ false) (map f rs)
      behind [] h k = tt
      behind (r ∷ rs) h k = (last (row i (suc n) z) r refl h.0 k.0, behind rs h.1 k.1)

pub sort_placed : (before : Triple → Triple → Bool) (i : ℕ)
    → ((x y : Triple) → x.iter ≡ i → y.iter ≡ i → x.place < y.place → before y x ≡ false)
    → (xs : List ℤ) → sort before (placed i 0 xs) ≡ placed i 0 xs
sort_placed before i last xs =
    sort_sorted before (placed i 0 xs)
    (subst (Sorted before) (map_id (placed i 0 xs)) (placed_sorted (λ r. r) before i last 0 xs))

module _ {A : Type 0} (it : A → ℕ) (z : A → ℤ) where
  pub renumber : (i n : ℕ) (us : List A) → All (λ r. eqb i (it r) ≡ true) us
      → map (λ r. row (it r.0) r.1 (z r.0)) (in_turn n us) ≡ placed i n (map z us)
  unfolding in_turn placed
  renumber i n [] h = refl
  renumber i n (u ∷ us) h =
      ap₂ ◌∷◌ (ap (λ (j : ℕ). row j (suc n) (z u)) (sym (eqb-true i (it u) h.0))) (renumber i (suc n) us h.1)

  pub numbered_at : (ks : List (Key A)) → All LawfulKey ks → (t : List A) (i : ℕ)
      → within iter_of i (map (λ r. row (it r.0) r.1 (z r.0)) (counted (grouped it) ks t))
      ≡ placed i 0 (map z (sort (rising_by ks) (within it i t)))
  unfolding within counted filter
  numbered_at ks lawful t i =
      let p : A → Bool = λ r. eqb i (it r) in
      let w : Weak (rising_by ks) = rising_by_weak ks lawful in
      filter_map (λ r. eqb i r.iter) (λ r. row (it r.0) r.1 (z r.0)) (counted (grouped it) ks t)
      ∙ ap (map (λ r. row (it r.0) r.1 (z r.0)))
      (filter_counted_after (grouped it) p whole [] (sort (rising_by ks) t)
      ∙ ap (counted_after (grouped it) []) (filter_sort (rising_by ks) w p t)
      ∙ counted_after_alone (grouped it) (λ r. p r ≡ true) alone [] (sort (rising_by ks) (filter p t)) tt ours)
      ∙ renumber i 0 (sort (rising_by ks) (filter p t)) ours
    where
      whole : (r s : A) → eqb (it r) (it s) ≡ true → eqb i (it r) ≡ eqb i (it s)
      whole r s e = ap (eqb i) (eqb-true (it r) (it s) e)

      alone : (r s : A) → eqb i (it r) ≡ true → eqb i (it s) ≡ true → eqb (it r) (it s) ≡ true
      alone r s e d = eq-eqb (it r) (it s) (sym (eqb-true i (it r) e) ∙ eqb-true i (it s) d)

      ours : All (λ r. eqb i (it r) ≡ true) (sort (rising_by ks) (filter (λ r. eqb i (it r)) t))
      ours =
          all_sort (rising_by ks) (λ r. eqb i (it r) ≡ true) (filter (λ r. eqb i (it r)) t)
          (all_filter (λ r. eqb i (it r)) t)
