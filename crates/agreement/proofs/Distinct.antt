-- Where the rules number or judge, no two rows are equal in the columns that are looked at.
--     Shown m t                table t represents a family of the iterations of m
--     represented              what a run that agrees gives
--     distinct_rows            rows of an expression: an iteration has one row at a place
--     distinct_places          .. and rows of one iteration, by place alone
--     distinct_sides           QS: .. on each side, and the mark tells the sides apart
--     distinct_outer           QF: .. of the body, and each row is joined with at most one row of the map
--     distinct_nodes           QX: the nodes of an iteration rise
use Prim.Native.Nat.{ℕ, suc, ◌<◌}
use native.Mathlib.Omega.{arith}
use mathlib.Core.Path.{◌≡◌, sym, ◌∙◌, subst}
use mathlib.Core.List.{List, [], ◌∷◌, map}
use mathlib.Core.Bool.{Bool, true, false, ◌&&◌, and-false, false≢true}
use lib.Dec.{eqb, leb}
use lib.IntN.{ℤ, pos}
use borrow.Author.Tests.{ne_eqb}
use Rattle.cells.specs.Cell.{same}
use Rattle.laws.specs.Lists.{gather, Rising}
use Rattle.laws.specs.Keyed.{within, joined, AtMostOne, absent, present}
use Rattle.laws.specs.Attempt.{Attempt, gives}
use Rattle.laws.proofs.Booleans.{both_true}
use Rattle.laws.proofs.Lists.{all_any, all_mapped}
use Rattle.laws.proofs.Filters.{gather_each}
use Rattle.laws.specs.Sorting.{Sorted}
use Rattle.laws.proofs.Outcomes.{fails_gives, gives_same}
use Rattle.laws.proofs.Numbering.{rising_once}
use Rattle.laws.proofs.Joins.{joined_at, gather_none}
use Rattle.theorems.specs.Nodes.{Before}
use Rattle.agreement.specs.Typed.{Triple, iter_of, sides, outer_of}
use Rattle.agreement.specs.Families.{Family, Mask, placed, Represents, Outside, Agree, agrees, failing}
use Rattle.agreement.specs.Encoded.{encode, encode_number, encode_pair, encode_numbers, encode_item}
use Rattle.agreement.specs.Tieless.{alike, Untied, Distinct}
use Rattle.cells.proofs.Cells.{before_other}
use Rattle.agreement.proofs.Tables.{placed_behind}
use Rattle.agreement.proofs.Untied.{untied_mapped, untied_less, untied_append, untied_rising, untied_parts}

-- What a run that agrees gives

pub record Shown (m : Mask) (t : List Triple) : Type 0 where
  pub family : Family
  pub outside : Outside m family
  pub rows : Represents t family

pub represented : {m : Mask} {f : ℕ → Attempt (List ℤ)} {run : Attempt (List Triple)} {t : List Triple}
    → Agree m f run → run ≡ gives t → Shown m t
represented (agrees u s e h out rep) d =
    record { family = s; outside = out; rows = subst (λ r. Represents r s) (gives_same (sym e ∙ d)) rep }
represented {t = t} (failing i k e d) g = absurd (fails_gives t (sym d ∙ g))

-- one of three, and two of three
second_true : (a b c : Bool) → (a && (b && c)) ≡ true → b ≡ true
second_true true b c e = (both_true b c e).0
second_true false b c e = absurd (false≢true e)

others_true : (a b c : Bool) → (a && (b && c)) ≡ true → (a && c) ≡ true
others_true true b c e = (both_true b c e).1
others_true false b c e = e

-- Cells of numbers

same_number : (m n : ℕ) → same (pos m) (pos n) ≡ true → eqb m n ≡ true
unfolding same
same_number m n e = e

other_place : (m n : ℕ) → m < n → same (pos m) (pos n) ≡ false
unfolding same
other_place m n h = ne_eqb m n (λ e. omega arith)

-- rows at rising places
abbrev Later : Triple → Triple → Type 0
Later r s = r.place < s.place

placed_rise : (i n : ℕ) (zs : List ℤ) → Rising Later (placed i n zs)
unfolding placed
placed_rise i n [] = tt
placed_rise i n (z ∷ zs) = (placed_behind i (suc n) zs, placed_rise i (suc n) zs)

-- rows of some iteration, one for each item of a family, told apart by their places
untied_placed : {A : Type 0} (f : Triple → A) (p : A → A → Bool) → ((r s : Triple) → Later r s → p (f r) (f s) ≡ false)
    → (i : ℕ) (zs : List ℤ) → Untied p (map f (placed i 0 zs))
untied_placed f p apart i zs =
    untied_mapped p f (placed i 0 zs)
    (untied_rising Later (λ r s. p (f r) (f s)) apart (placed i 0 zs) (placed_rise i 0 zs))

abbrev same_rows : Triple → Triple → Bool
same_rows r s = alike (0 ∷ 1 ∷ []) (encode r) (encode s)

same_rows_iter : (r s : Triple) → same_rows r s ≡ true → eqb r.iter s.iter ≡ true
unfolding alike
same_rows_iter r s e = same_number r.iter s.iter (both_true (same (pos r.iter) (pos s.iter)) _ e).0

same_rows_apart : (r s : Triple) → Later r s → same_rows r s ≡ false
unfolding alike
same_rows_apart r s h = rw (other_place r.place s.place h) (and-false (same (pos r.iter) (pos s.iter)))

pub distinct_rows : {m : Mask} {t : List Triple} → Shown m t → Distinct (0 ∷ 1 ∷ []) encode t
distinct_rows {t} h =
    let s : Family = h.family in
    let rep : Represents t s = h.rows in
    untied_parts same_rows iter_of same_rows_iter t
    (λ i. subst (Untied same_rows) (sym (rep i))
    (untied_rising Later same_rows same_rows_apart (placed i 0 (s i)) (placed_rise i 0 (s i))))

-- rows of one iteration, by place alone
pub distinct_places : (i : ℕ) (zs : List ℤ) → Untied (alike (1 ∷ [])) (map encode (placed i 0 zs))
unfolding alike
distinct_places i zs =
    untied_placed encode (alike (1 ∷ [])) (λ r s h. rw (other_place r.place s.place h)) i zs

-- QS

abbrev Side : Type 0
Side = Triple × ℕ

abbrev same_sides : Side → Side → Bool
same_sides x y = alike (0 ∷ 3 ∷ 1 ∷ []) (encode_pair encode encode_number x) (encode_pair encode encode_number y)

-- within a side, by iteration and place
one_side : (n : ℕ) (r s : Triple) → same_sides (r, n) (s, n) ≡ true → same_rows r s ≡ true
unfolding alike
one_side n r s e = others_true (same (pos r.iter) (pos s.iter)) (same (pos n) (pos n)) _ e

two_sides : (r s : Triple) → same_sides (r, 1) (s, 2) ≡ false
unfolding alike same
two_sides r s = and-false (eqb r.iter s.iter)

pub distinct_sides : {m : Mask} {a b : List Triple} → Shown m a → Shown m b
    → Distinct (0 ∷ 3 ∷ 1 ∷ []) (encode_pair encode encode_number) (sides a b)
unfolding sides
distinct_sides {a} {b} ra rb =
    untied_append same_sides (map (λ r. (r, 1)) a) (map (λ r. (r, 2)) b) (side 1 a (distinct_rows ra))
    (side 2 b (distinct_rows rb))
    (all_mapped _ (λ r. (r, 1)) a
    (all_any a (λ r. all_mapped (λ y. same_sides (r, 1) y ≡ false) (λ s. (s, 2)) b (all_any b (λ s. two_sides r s)))))
  where
    side : (n : ℕ) (t : List Triple) → Untied same_rows t → Untied same_sides (map (λ r. (r, n)) t)
    side n t h =
        untied_mapped same_sides (λ r. (r, n)) t
        (untied_less (λ r s. same_sides (r, n) (s, n)) same_rows (one_side n) t h)

-- QF, after its body

abbrev Beside : Type 0
Beside = Triple × (ℕ × ℕ)

abbrev same_outer : Beside → Beside → Bool
same_outer x y = alike (3 ∷ 0 ∷ 1 ∷ []) (encode_pair encode encode_numbers x) (encode_pair encode encode_numbers y)

outer_inner : (x y : Beside) → same_outer x y ≡ true → eqb x.0.iter y.0.iter ≡ true
unfolding alike
outer_inner x y e =
    same_number x.0.iter y.0.iter
    (second_true (same (pos x.1.0) (pos y.1.0)) (same (pos x.0.iter) (pos y.0.iter)) _ e)

outer_apart : (p : ℕ × ℕ) (r s : Triple) → Later r s → same_outer (r, p) (s, p) ≡ false
unfolding alike
outer_apart p r s h = rw (same_rows_apart r s h) (and-false (same (pos p.0) (pos p.0)))

pub distinct_outer : {n : Mask} {t : List Triple} (m : List (ℕ × ℕ)) → Shown n t
    → Sorted (λ (x y : ℕ × ℕ). leb x.1 y.1) m
    → Distinct (3 ∷ 0 ∷ 1 ∷ []) (encode_pair encode encode_numbers) (outer_of t m)
unfolding outer_of within
distinct_outer {t} m h rises =
    untied_parts same_outer (λ x. x.0.iter) outer_inner (joined iter_of (λ p. p.1) t m)
    (λ n. subst (Untied same_outer) (sym (joined_at iter_of (λ p. p.1) n t m))
    (one n (within (λ p. p.1) n m) (rising_once (λ p. p.1) m rises n)))
  where
    one : (n : ℕ) (ps : List (ℕ × ℕ)) → AtMostOne (λ p. p.1) n ps
        → Untied same_outer (gather (λ r. map (λ p. (r, p)) ps) (within iter_of n t))
    one n ps (absent e) = rw (e, gather_none {B = Beside} (within iter_of n t)) tt
    one n ps (present p k e) =
        rw (e, gather_each {B = Beside} (λ r. (r, p)) (within iter_of n t), h.rows n)
        (untied_placed (λ r. (r, p)) same_outer (outer_apart p) n (h.family n))

-- QX

abbrev same_nodes : ℕ × ℤ → ℕ × ℤ → Bool
same_nodes x y = alike (0 ∷ 1 ∷ []) (encode_item x) (encode_item y)

nodes_iter : (x y : ℕ × ℤ) → same_nodes x y ≡ true → eqb x.0 y.0 ≡ true
unfolding alike
nodes_iter x y e = same_number x.0 y.0 (both_true (same (pos x.0) (pos y.0)) _ e).0

nodes_apart : (i : ℕ) (y z : ℤ) → Before y z → same_nodes (i, y) (i, z) ≡ false
unfolding alike
nodes_apart i y z h = rw (before_other y z h) (and-false (same (pos i) (pos i)))

pub distinct_nodes : (t : List (ℕ × ℤ)) (nodes : ℕ → List ℤ)
    → ((i : ℕ) → within (λ r. r.0) i t ≡ map (λ y. (i, y)) (nodes i)) → ((i : ℕ) → Rising Before (nodes i))
    → Distinct (0 ∷ 1 ∷ []) encode_item t
distinct_nodes t nodes at rises =
    untied_parts same_nodes (λ r. r.0) nodes_iter t
    (λ i. subst (Untied same_nodes) (sym (at i))
    (untied_mapped same_nodes (λ y. (i, y)) (nodes i)
    (untied_rising Before (λ y z. same_nodes (i, y) (i, z)) (nodes_apart i) (nodes i) (rises i))))
