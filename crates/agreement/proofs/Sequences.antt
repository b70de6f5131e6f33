-- QS: a's items, then b's. QT: a variable.
--     side_later, place_later  within an iteration the sort looks at sides, then at places
--     sides_sorted             a's rows and then b's are sorted
--     represents_S             after numbering, an iteration has a's items, then b's
--     rule_S                   the agreement of QS
--     holds_bind               a table for one more variable
use Prim.Native.Nat.{ℕ, ◌<◌}
use native.Mathlib.Omega.{arith}
use native.Mathlib.Nat.{le_refl}
use mathlib.Core.Path.{◌≡◌, ap, ap₂, ◌∙◌}
use mathlib.Core.List.{List, [], ◌∷◌, ◌++◌, map, map-map}
use mathlib.Core.Bool.{false}
use lib.Dec.{eqb, lit<}
use lib.IntN.{ℤ}
use Rattle.laws.specs.Sorting.{sort, Sorted}
use Rattle.laws.specs.Keyed.{Key, rising_by, within}
use Rattle.laws.proofs.Lists.{all_mapped, all_map}
use Rattle.laws.proofs.Filters.{filter_map, filter_append, map_append}
use Rattle.laws.proofs.Booleans.{by_cases}
use Rattle.laws.proofs.Sorting.{sort_sorted, sorted_append}
use Rattle.laws.specs.Attempt.{gives}
use Rattle.meaning.specs.Meaning.{Env, bind}
use Rattle.agreement.specs.Typed.{Triple, Vars, by_number, holding, sides}
use Rattle.agreement.specs.Typed.{sides_in_order, sem_s}
use Rattle.agreement.specs.Families.{Family, Mask, placed, Represents, Outside, HoldsVars, Agree}
use Rattle.agreement.proofs.Keys.{by_cell_lawful, later, later_last, later_apart, same_lt, before_le}
use Rattle.agreement.proofs.Tables.{placed_iter, placed_sorted, map_placed, numbered_at}
use Rattle.agreement.proofs.Agreeing.{agree_gives}

-- QS sorts by iteration, then side, then place
abbrev keys : List (Key (Triple × ℕ))
keys = by_number (λ r. r.0.iter) ∷ by_number (λ r. r.1) ∷ by_number (λ r. r.0.place) ∷ []

-- within an iteration, a row stands behind one of an earlier side, and behind one of its own side at an earlier place
side_later : (i : ℕ) (x y : Triple × ℕ) → x.0.iter ≡ i → y.0.iter ≡ i → x.1 < y.1 → rising_by keys y x ≡ false
side_later i x y a b h =
    later _ _ y x (before_le y.0.iter x.0.iter (omega arith))
    (later_apart _ _ y x (before_le y.1 x.1 (omega arith)) (same_lt x.1 y.1 h))

place_later : (i n : ℕ) (x y : Triple) → x.iter ≡ i → y.iter ≡ i → x.place < y.place
    → rising_by keys (y, n) (x, n) ≡ false
place_later i n x y a b h =
    later _ _ (y, n) (x, n) (before_le y.iter x.iter (omega arith))
    (later _ _ (y, n) (x, n) (before_le n n (le_refl n))
    (later_last _ (y, n) (x, n) (before_le y.place x.place (omega arith))))

sides_sorted : (i : ℕ) (xs ys : List ℤ)
    → Sorted (rising_by keys) (map (λ r. (r, 1)) (placed i 0 xs) ++ map (λ r. (r, 2)) (placed i 0 ys))
sides_sorted i xs ys =
    sorted_append (rising_by keys) (map (λ r. (r, 1)) (placed i 0 xs)) (map (λ r. (r, 2)) (placed i 0 ys))
    (placed_sorted (λ r. (r, 1)) (rising_by keys) i (place_later i 1) 0 xs)
    (placed_sorted (λ r. (r, 2)) (rising_by keys) i (place_later i 2) 0 ys)
    (all_mapped _ (λ r. (r, 1)) (placed i 0 xs)
    (all_map (placed i 0 xs)
    (λ x a.
    all_mapped _ (λ r. (r, 2)) (placed i 0 ys)
    (all_map (placed i 0 ys) (λ y b. side_later i (x, 1) (y, 2) a b (lit< tt)) (placed_iter i 0 ys)))
    (placed_iter i 0 xs)))

sides_at : (a b : List Triple) (s u : Family) → Represents a s → Represents b u → (i : ℕ)
    → within (λ r. r.0.iter) i (sides a b) ≡ map (λ r. (r, 1)) (placed i 0 (s i))
    ++ map (λ r. (r, 2)) (placed i 0 (u i))
unfolding within sides
sides_at a b s u ra rb i =
    filter_append (λ r. eqb i r.0.iter) (map (λ r. (r, 1)) a) (map (λ r. (r, 2)) b)
    ∙ ap₂ ◌++◌
    (filter_map (λ r. eqb i r.0.iter) (λ r. (r, 1)) a ∙ ap (map (λ r. (r, 1))) (ra i))
    (filter_map (λ r. eqb i r.0.iter) (λ r. (r, 2)) b ∙ ap (map (λ r. (r, 2))) (rb i))

items_of_side : (n i : ℕ) (xs : List ℤ)
    → map (λ (r : Triple × ℕ). r.0.item) (map (λ r. (r, n)) (placed i 0 xs)) ≡ xs
items_of_side n i xs =
    map-map (λ (r : Triple × ℕ). r.0.item) (λ (r : Triple). (r, n)) (placed i 0 xs) ∙ map_placed i 0 xs

pub represents_S : (a b : List Triple) (s u : Family) → Represents a s → Represents b u
    → Represents (sem_s a b) (λ i. s i ++ u i)
unfolding sem_s sides_in_order
represents_S a b s u ra rb i =
    numbered_at (λ r. r.0.iter) (λ r. r.0.item) keys (by_cell_lawful _, (by_cell_lawful _, (by_cell_lawful _, tt)))
    (sides a b) i
    ∙ ap (placed i 0)
    (ap (λ t. map (λ r. r.0.item) (sort (rising_by keys) t)) (sides_at a b s u ra rb i)
    ∙ ap (map (λ r. r.0.item)) (sort_sorted (rising_by keys) _ (sides_sorted i (s i) (u i)))
    ∙ map_append (λ r. r.0.item) (map (λ r. (r, 1)) (placed i 0 (s i))) (map (λ r. (r, 2)) (placed i 0 (u i)))
    ∙ ap₂ ◌++◌ (items_of_side 1 i (s i)) (items_of_side 2 i (u i)))

pub rule_S : (m : Mask) (a b : List Triple) (s u : Family) → Outside m s → Outside m u → Represents a s
    → Represents b u
    → Agree m (λ i. gives (s i ++ u i)) (gives (sem_s a b))
rule_S m a b s u os ou ra rb =
    agree_gives (sem_s a b) (λ i. s i ++ u i) (λ i e. ap₂ ◌++◌ (os i e) (ou i e)) (represents_S a b s u ra rb)

-- QT
pub holds_bind : (m : Mask) (ρ : ℕ → Env) (vars : Vars) → HoldsVars m ρ vars → (v : ℕ) (t : List Triple) (s : Family)
    → Outside m s → Represents t s → HoldsVars m (λ i. bind v (s i) (ρ i)) (holding v t vars)
unfolding bind holding
holds_bind m ρ vars holds v t s out rep u i =
    by_cases (eqb u v)
    (λ e. by_cases (m i) (λ d. rw (e, d) (rep i)) (λ d. rw (e, d) (rep i ∙ ap (placed i 0) (out i d))))
    (λ e. rw e (holds u i))
