-- A plan never has more than 37 operators per query record plus 3 (document 01, 'Translation').
--     length_free_in, length_others_in    at most 8 variables are lifted for a part
--     length_lifts                      two operators for each lifted variable
--     ShortPlan os k, Few x k           os, the operators of x, are at most k
--     tr_bound                          a query's operators are at most 37 per record
--     plan_bound                        the whole plan: one operator before them and two after them
use Prim.Native.Nat.{ℕ, suc, ◌+◌, ◌*◌, ◌≤◌}
use mathlib.Core.Path.{◌≡◌, refl}
use mathlib.Core.List.{List, [], ◌∷◌}
use mathlib.Core.Bool.{Bool, true, false, not, cond, ◌&&◌}
use native.Mathlib.Omega.{arith}
use native.Mathlib.Nat.{le_refl, le_trans}
use lib.Dec.{eqb, lit≤}
use lib.IntN.{ℤ}
use lib.ListN.{length, length-append}
use Rattle.laws.specs.Lists.{filter, below}
use Rattle.codes.specs.declared.Function.{Function}
use Rattle.codes.specs.declared.Axis.{Axis}
use Rattle.codes.specs.declared.Test.{Test}
use Rattle.meaning.specs.Query.{Query, QL, QE, QR, QV, QS, QT, QF, QI, QO, QC, QD, QX, free}
use Rattle.meaning.specs.Plan.{Op}
use Rattle.theorems.specs.Closed.{records}
use Rattle.meaning.specs.Translation.{Made, Tables, free_in, others_in, lifts, rule_l, rule_r, rule_e, tail_s, head_f, tail_f}
use Rattle.meaning.specs.Translation.{head_i, tail_o, tail_c, tail_d, tail_x, then, tr, tail_last, plan}

length_cond :
    {A : Type 0} (t : Bool) (x : A) (xs : List A) (n : ℕ) → length xs ≤ n → length (cond t (x ∷ xs) xs) ≤ suc n
length_cond true x xs n h = omega arith
length_cond false x xs n h = omega arith

pub length_filter : {A : Type 0} (p : A → Bool) (xs : List A) → length (filter p xs) ≤ length xs
unfolding filter
length_filter p [] = omega arith
length_filter p (x ∷ xs) = length_cond (p x) x (filter p xs) (length xs) (length_filter p xs)

pub length_lifts : (e : Tables) (m : ℕ) (cs : List ℕ) (n : ℕ) (vs : List ℕ) → length (lifts e m cs n vs) ≡ 2 * length vs
unfolding lifts
length_lifts e m cs n [] = refl
length_lifts e m cs n (v ∷ vs) = omega (arith, length_lifts e m cs (n + 2) vs)

pub length_free_in : (q : Query) → length (free_in q) ≤ 8
unfolding free_in below
length_free_in q = length_filter (λ v. free v q) (below 8)

pub length_others_in : (v : ℕ) (q : Query) → length (others_in v q) ≤ 8
unfolding others_in below
length_others_in v q = length_filter (λ u. not (eqb u v) && free u q) (below 8)

-- bounds add up along the parts of a rule

record ShortPlan (os : List Op) (k : ℕ) : Type 0 where
  most : length os ≤ k

record Few (x : Made) (k : ℕ) : Type 0 where
  most : length x.ops ≤ k

few_then : {os : List Op} {y : Made} {a b : ℕ} → ShortPlan os a → Few y b → Few (then os y) (a + b)
unfolding then
few_then h k = record { most = simp length-append (omega arith) }

few_within : {x : Made} {a b : ℕ} → Few x a → a ≤ b → Few x b
few_within h k = record { most = le_trans h.most k }

-- the operators of x by themselves
short : {x : Made} {k : ℕ} → Few x k → ShortPlan x.ops k
short h = record { most = h.most }

-- operators that are written out
counted_short : (os : List Op) → ShortPlan os (length os)
counted_short os = record { most = le_refl (length os) }

counted : (x : Made) → Few x (length x.ops)
counted x = record { most = le_refl (length x.ops) }

lifts_short : (e : Tables) (m : ℕ) (cs : List ℕ) (n : ℕ) (vs : List ℕ) → length vs ≤ 8
    → ShortPlan (lifts e m cs n vs) 16
lifts_short e m cs n vs h = record { most = simp length_lifts (omega arith) }

-- the sums of the rules stay within 37 for the rule's own record
one_more : (k r : ℕ) → k ≤ 37 → 37 * r + k ≤ 37 * suc r
one_more k r h = omega arith

two_more : (k r s : ℕ) → k ≤ 37 → 37 * r + (37 * s + k) ≤ 37 * suc (r + s)
two_more k r s h = omega arith

let_more : (r s : ℕ) → 37 * r + 37 * s ≤ 37 * suc (r + s)
let_more r s = omega arith

for_more : (r s : ℕ) → 37 * r + (5 + (16 + (37 * s + 3))) ≤ 37 * suc (r + s)
for_more r s = omega arith

choice_more : (r s t : ℕ) → 37 * r + (4 + (16 + (37 * s + (16 + (37 * t + 1))))) ≤ 37 * suc (r + s + t)
choice_more r s t = omega arith

abbrev Bounded : Query → Type 0
Bounded q = (n l : ℕ) (e : Tables) → Few (tr q n l e) (37 * records q)

bound_QL : (at : ℕ) (z : ℤ) → Bounded (QL at z)
unfolding tr rule_l
bound_QL at z n l e = record { most = lit≤ tt }

bound_QE : (at : ℕ) → Bounded (QE at)
unfolding tr rule_e
bound_QE at n l e = record { most = lit≤ tt }

bound_QR : (at k : ℕ) → Bounded (QR at k)
unfolding tr rule_r
bound_QR at k n l e = record { most = lit≤ tt }

bound_QV : (at v : ℕ) → Bounded (QV at v)
unfolding tr
bound_QV at v n l e = record { most = lit≤ tt }

bound_QS : (at : ℕ) (a b : Query) → Bounded a → Bounded b → Bounded (QS at a b)
unfolding tr tail_s
bound_QS at a b ha hb n l e =
    few_within (few_then (short (ha n l e)) (few_then (short (hb _ l e)) (counted _)))
    (two_more 5 (records a) (records b) (lit≤ tt))

bound_QT : (at v : ℕ) (a b : Query) → Bounded a → Bounded b → Bounded (QT at v a b)
unfolding tr
bound_QT at v a b ha hb n l e = few_within (few_then (short (ha n l e)) (hb _ l _)) (let_more (records a) (records b))

bound_QF : (at v : ℕ) (a b : Query) → Bounded a → Bounded b → Bounded (QF at v a b)
unfolding tr head_f tail_f
bound_QF at v a b ha hb n l e =
    few_within
    (few_then (short (ha n l e))
    (few_then (counted_short _)
    (few_then (lifts_short e _ _ _ (others_in v b) (length_others_in v b)) (few_then (short (hb _ _ _)) (counted _)))))
    (for_more (records a) (records b))

bound_QI : (at : ℕ) (c a b : Query) → Bounded c → Bounded a → Bounded b → Bounded (QI at c a b)
unfolding tr head_i
bound_QI at c a b hc ha hb n l e =
    few_within
    (few_then (short (hc n l e))
    (few_then (counted_short _)
    (few_then (lifts_short e _ _ _ (free_in a) (length_free_in a))
    (few_then (short (ha _ _ _))
    (few_then (lifts_short e _ _ _ (free_in b) (length_free_in b)) (few_then (short (hb _ _ _)) (counted _)))))))
    (choice_more (records c) (records a) (records b))

bound_QO : (at : ℕ) (f : Function) (a b : Query) → Bounded a → Bounded b → Bounded (QO at f a b)
unfolding tr tail_o
bound_QO at f a b ha hb n l e =
    few_within (few_then (short (ha n l e)) (few_then (short (hb _ l e)) (counted _)))
    (two_more 6 (records a) (records b) (lit≤ tt))

bound_QC : (at : ℕ) (a : Query) → Bounded a → Bounded (QC at a)
unfolding tr tail_c
bound_QC at a ha n l e = few_within (few_then (short (ha n l e)) (counted _)) (one_more 7 (records a) (lit≤ tt))

bound_QD : (at : ℕ) (a : Query) → Bounded a → Bounded (QD at a)
unfolding tr tail_d
bound_QD at a ha n l e = few_within (few_then (short (ha n l e)) (counted _)) (one_more 2 (records a) (lit≤ tt))

bound_QX : (at : ℕ) (x : Axis) (t : Test) (a : Query) → Bounded a → Bounded (QX at x t a)
unfolding tr tail_x
bound_QX at x t a ha n l e = few_within (few_then (short (ha n l e)) (counted _)) (one_more 4 (records a) (lit≤ tt))

bounded : (q : Query) → Bounded q
bounded q =
    elim q as (λ q. Bounded q) [
      | QL at z ↦ bound_QL at z
      | QE at ↦ bound_QE at
      | QR at k ↦ bound_QR at k
      | QV at v ↦ bound_QV at v
      | QS at (a → ha) (b → hb) ↦ bound_QS at a b ha hb
      | QT at v (a → ha) (b → hb) ↦ bound_QT at v a b ha hb
      | QF at v (a → ha) (b → hb) ↦ bound_QF at v a b ha hb
      | QI at (c → hc) (a → ha) (b → hb) ↦ bound_QI at c a b hc ha hb
      | QO at f (a → ha) (b → hb) ↦ bound_QO at f a b ha hb
      | QC at (a → ha) ↦ bound_QC at a ha
      | QD at (a → ha) ↦ bound_QD at a ha
      | QX at x t (a → ha) ↦ bound_QX at x t a ha
    ]

pub tr_bound : (q : Query) (n l : ℕ) (e : Tables) → length (tr q n l e).ops ≤ 37 * records q
tr_bound q n l e = (bounded q n l e).most

pub plan_bound : (q : Query) → length (plan q) ≤ 37 * records q + 3
unfolding plan tail_last
plan_bound q = simp length-append (omega (arith, tr_bound q 1 0 (λ v. 0)))
