-- QF, after its body: the rows of the new iterations are brought back to the outer one, one iteration after another.
--     beside t p         the rows of table t for the new iteration of p, each beside p
--     same_sort          joining and then sorting is sorting what stands beside each new iteration in turn
--     gathered_sorted    .. which is sorted already
--     back_at            what is brought back to iteration i
use Prim.Native.Nat.{ℕ, ◌<◌}
use native.Mathlib.Omega.{arith}
use native.Mathlib.Nat.{le_refl}
use mathlib.Core.Path.{◌≡◌, refl, sym, ap, ◌∙◌}
use mathlib.Core.List.{List, [], ◌∷◌, map, map-map, append-nil}
use mathlib.Core.Bool.{true, false}
use lib.Dec.{eqb, leb}
use borrow.Author.Tests.{eqb-true, leb-false}
use Rattle.cells.specs.Cell.{same}
use Rattle.laws.specs.Lists.{filter, gather, All}
use Rattle.laws.specs.Sorting.{sort, Sorted, tied}
use Rattle.laws.specs.Keyed.{Key, rising_by, within, joined, LawfulKey, AtMostOne, absent, present}
use Rattle.laws.proofs.Lists.{all_any, all_append, all_both, all_map, all_mapped, all_passed, rising_kept}
use Rattle.laws.proofs.Filters.{all_filter, gather_each, gather_same, map_gather}
use Rattle.laws.proofs.Sorting.{rising_by_weak, tied_keys, sort_sorted, sort_parts}
use Rattle.laws.proofs.Sorting.{sorted_append}
use Rattle.laws.proofs.Numbering.{rising_once}
use Rattle.laws.proofs.Joins.{joined_at, joined_right, gather_none}
use Rattle.laws.proofs.Groups.{within_gather}
use Rattle.agreement.specs.Typed.{Triple, iter_of, item_of, by_number, outer_of, outer_in_order}
use Rattle.agreement.specs.Typed.{brought_back}
use Rattle.agreement.specs.Families.{Family, placed, Represents}
use Rattle.agreement.proofs.Keys.{by_cell_lawful, later, later_last, later_apart, before_le, same_lt}
use Rattle.agreement.proofs.Tables.{placed_sorted, map_placed, numbered_at}

-- a row of the body's table, beside (outer, inner iteration)
abbrev Beside : Type 0
Beside = Triple × (ℕ × ℕ)

abbrev inner : ℕ × ℕ → ℕ
inner p = p.1

abbrev part : Beside → ℕ
part x = x.0.iter

-- QF sorts by outer, then inner iteration, then place
abbrev keys : List (Key Beside)
keys = by_number (λ r. r.1.0) ∷ by_number (λ r. r.0.iter) ∷ by_number (λ r. r.0.place) ∷ []

lawful : All LawfulKey keys
lawful = (by_cell_lawful _, (by_cell_lawful _, (by_cell_lawful _, tt)))

-- rows that tie are of one inner iteration
apart : (x y : Beside) → tied (rising_by keys) x y ≡ true → eqb (part x) (part y) ≡ true
unfolding same
apart x y e =
    let outer =
    tied_keys (by_number (λ r. r.1.0)) (by_number (λ r. r.0.iter) ∷ by_number (λ r. r.0.place) ∷ [])
    (by_cell_lawful _) x y e in
    (tied_keys (by_number (λ r. r.0.iter)) (by_number (λ r. r.0.place) ∷ []) (by_cell_lawful _) x y outer.1).0

module _ (t : List Triple) where
  beside : ℕ × ℕ → List Beside
  beside p = map (λ r. (r, p)) (within iter_of (inner p) t)

  beside_part : (p : ℕ × ℕ) → All (λ x. inner p ≡ part x) (beside p)
  unfolding beside within
  beside_part p =
      all_mapped (λ x. inner p ≡ part x) (λ r. (r, p)) (within iter_of (inner p) t)
      (all_map (within iter_of (inner p) t) (λ r e. eqb-true (inner p) r.iter e)
      (all_filter (λ r. eqb (inner p) r.iter) t))

  -- for new iterations in rising order, the join and the groups one after another have one sort
  same_sort : (q : List (ℕ × ℕ)) → Sorted (λ x y. leb (inner x) (inner y)) q
      → sort (rising_by keys) (joined iter_of inner t q) ≡ sort (rising_by keys) (gather beside q)
  unfolding within beside gather
  same_sort q rises =
      sort_parts (rising_by keys) (rising_by_weak keys lawful) part apart (joined iter_of inner t q) (gather beside q)
      parts
    where
      one : (n : ℕ) (ps : List (ℕ × ℕ)) → AtMostOne inner n ps
          → gather (λ r. map (λ p. (r, p)) ps) (within iter_of n t) ≡ gather beside ps
      one n ps (absent e) = rw e (gather_none (within iter_of n t))
      one n ps (present p k e) =
          rw e
          (gather_each (λ r. (r, p)) (within iter_of n t)
          ∙ ap (λ (j : ℕ). map (λ r. (r, p)) (within iter_of j t)) k
          ∙ sym (append-nil (beside p)))

      parts : (n : ℕ) → within part n (joined iter_of inner t q) ≡ within part n (gather beside q)
      parts n =
          joined_at iter_of inner n t q
          ∙ one n (within inner n q) (rising_once inner q rises n)
          ∙ sym (within_gather inner part beside beside_part n q)

  module _ (s : Family) (rep : Represents t s) (i : ℕ) where
    place_later : (p : ℕ × ℕ) (x y : Triple) → x.iter ≡ inner p → y.iter ≡ inner p → x.place < y.place
        → rising_by keys (y, p) (x, p) ≡ false
    place_later p x y a b h =
        later _ _ (y, p) (x, p) (before_le p.0 p.0 (le_refl p.0))
        (later _ _ (y, p) (x, p) (before_le y.iter x.iter (omega arith))
        (later_last _ (y, p) (x, p) (before_le y.place x.place (omega arith))))

    -- of one outer iteration, rows of a later inner one stand behind
    inner_later : (p q : ℕ × ℕ) → p.0 ≡ i → q.0 ≡ i → inner p < inner q → (x y : Beside) → x.1 ≡ p → y.1 ≡ q
        → inner p ≡ part x → inner q ≡ part y
        → rising_by keys y x ≡ false
    inner_later p q a b h x y xp yq xr yr =
        later _ _ y x
        (before_le y.1.0 x.1.0
        (let c = ap (λ (z : ℕ × ℕ). z.0) xp in let d = ap (λ (z : ℕ × ℕ). z.0) yq in omega arith))
        (later_apart _ _ y x (before_le (part y) (part x) (omega arith)) (same_lt (part x) (part y) (omega arith)))

    beside_sorted : (p : ℕ × ℕ) → Sorted (rising_by keys) (beside p)
    unfolding beside
    beside_sorted p =
        rw (rep (inner p))
        (placed_sorted (λ r. (r, p)) (rising_by keys) (inner p) (place_later p) 0 (s (inner p)))

    beside_map : (p : ℕ × ℕ) → All (λ x. x.1 ≡ p) (beside p)
    unfolding beside
    beside_map p =
        all_mapped (λ x. x.1 ≡ p) (λ r. (r, p)) (within iter_of (inner p) t)
        (all_any (within iter_of (inner p) t) (λ r. refl))

    all_later : (p : ℕ × ℕ) → p.0 ≡ i → (q : List (ℕ × ℕ)) → All (λ z. z.0 ≡ i) q
        → All (λ z. leb (inner z) (inner p) ≡ false) q
        → (x : Beside) → x.1 ≡ p → inner p ≡ part x → All (λ y. rising_by keys y x ≡ false) (gather beside q)
    unfolding gather
    all_later p a [] h k x xp xr = tt
    all_later p a (z ∷ q) h k x xp xr =
        all_append (λ y. rising_by keys y x ≡ false) (beside z) (gather beside q)
        (all_map (beside z)
        (λ y b. inner_later p z a h.0 (leb-false (inner z) (inner p) k.0) x y xp b.0 xr b.1)
        (all_both _ _ (beside z) (beside_map z) (beside_part z)))
        (all_later p a q h.1 k.1 x xp xr)

    gathered_sorted : (q : List (ℕ × ℕ)) → All (λ p. p.0 ≡ i) q → Sorted (λ x y. leb (inner x) (inner y)) q
        → Sorted (rising_by keys) (gather beside q)
    unfolding gather
    gathered_sorted [] h rises = tt
    gathered_sorted (p ∷ q) h rises =
        sorted_append (rising_by keys) (beside p) (gather beside q) (beside_sorted p)
        (gathered_sorted q h.1 rises.1)
        (all_map (beside p) (λ x b. all_later p h.0 q h.1 rises.0 x b.0 b.1)
        (all_both _ _ (beside p) (beside_map p) (beside_part p)))

    gathered_items : (q : List (ℕ × ℕ))
        → map (λ (x : Beside). x.0.item) (gather beside q) ≡ gather (λ p. s (inner p)) q
    unfolding beside
    gathered_items q =
        map_gather (λ (x : Beside). x.0.item) beside q
        ∙ gather_same _ _ q
        (all_any q
        (λ p.
        map-map (λ (x : Beside). x.0.item) (λ r. (r, p)) (within iter_of (inner p) t)
        ∙ ap (map item_of) (rep (inner p))
        ∙ map_placed (inner p) 0 (s (inner p))))

    sorted_back : (q : List (ℕ × ℕ)) → All (λ p. p.0 ≡ i) q → Sorted (λ x y. leb (inner x) (inner y)) q
        → map (λ (x : Beside). x.0.item) (sort (rising_by keys) (joined iter_of inner t q))
        ≡ gather (λ p. s (inner p)) q
    sorted_back q ours rises =
        ap (map (λ (x : Beside). x.0.item)) (same_sort q rises)
        ∙ ap (map (λ (x : Beside). x.0.item))
        (sort_sorted (rising_by keys) (gather beside q) (gathered_sorted q ours rises))
        ∙ gathered_items q

    pub back_at : (m : List (ℕ × ℕ)) → Sorted (λ x y. leb (inner x) (inner y)) m
        → within iter_of i (brought_back t m) ≡ placed i 0 (gather (λ p. s (inner p)) (within (λ p. p.0) i m))
    unfolding brought_back outer_in_order outer_of within
    back_at m rises =
        numbered_at (λ r. r.1.0) (λ r. r.0.item) keys lawful (joined iter_of inner t m) i
        ∙ ap (placed i 0)
        (ap (λ u. map (λ (x : Beside). x.0.item) (sort (rising_by keys) u))
        (joined_right iter_of inner (λ p. eqb i p.0) t m)
        ∙ sorted_back (filter (λ p. eqb i p.0) m)
        (all_passed (λ p. eqb i p.0) (λ p. p.0 ≡ i) (λ p e. sym (eqb-true i p.0 e)) m)
        (rising_kept (λ p. eqb i p.0) (λ x y. leb (inner y) (inner x) ≡ false) m rises))
