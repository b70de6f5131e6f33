-- Every table of a run has rows of the width that the plan's check worked out: cells filled are the tables' cells.
--     make_wide              an operator on such tables makes one of its own width
--     read_sound             a plan that is read is sound, and its last width is 3
--     flat_wide              the cells of a table: rows times width
--     running_laid           .. of a sound plan
use Prim.Native.Nat.{ℕ, zero, suc, ◌+◌, ◌*◌, ◌<◌}
use mathlib.Core.Path.{◌≡◌, refl, sym, ap, ap₂, ◌∙◌, subst}
use mathlib.Core.List.{List, [], ◌∷◌, ◌++◌, map, append-nil, append_assoc}
use mathlib.Core.Bool.{Bool, true, false}
use native.Mathlib.Omega.{arith}
use native.Mathlib.Nat.{suc-mul, zero-mul}
use borrow.Author.Tests.{ltb-true, eqb-true}
use lib.Dec.{eqb, ltb, leb}
use lib.IntN.{ℤ}
use lib.ListN.{length, get_or, length-append, length-map}
use Rattle.cells.specs.Cell.{same}
use Rattle.codes.specs.declared.Axis.{Axis}
use Rattle.codes.specs.declared.Test.{Test}
use Rattle.laws.specs.Lists.{filter, gather, All}
use Rattle.laws.proofs.Lists.{all_map, all_any, all_append, all_kept, all_mapped}
use Rattle.laws.proofs.Filters.{map_append}
use Rattle.laws.proofs.Sorting.{all_sort}
use Rattle.laws.specs.Attempt.{Attempt, fails, gives, attempt, provided, each, Reading, refuses, reads, Work}
use Rattle.laws.specs.Attempt.{done, trying, within, Given, Found}
use Rattle.meaning.specs.World.{World}
use Rattle.meaning.specs.Plan.{Op, RT, RA, RP, RU, RD, RS, RJ, RN, RF, RV, RC, RE, RK, RX, RO, table_width, up_to6}
use Rattle.meaning.specs.Plan.{columns, width_of, Placed, placed_at, operator_at, last_of, ended, plan_from, plan_read}
use Rattle.meaning.specs.Operators.{Row, Table, cell, attach, project, minus, select, join, numbered_after, number}
use Rattle.meaning.specs.Operators.{added, groups, counts, truths, steps, rooted, table_of, make}
use Rattle.meaning.specs.Run.{cells, Filled, running}
use Rattle.meaning.specs.Calls.{last_table}
use Rattle.laws.specs.Rows.{flat}
use Rattle.theorems.proofs.PlanWidths.{attempt_gives, provided_gives}
use Rattle.laws.proofs.Outcomes.{gives_same, full_done, failed_done, given_gives, given_any}
use Rattle.laws.proofs.Outcomes.{given_attempt, given_provided, found_refuses, found_reads, found_unless}
use Rattle.laws.proofs.Outcomes.{found_refusing, found_reading}
use Rattle.theorems.specs.PlanRead.{widths_of}
use Rattle.agreement.specs.RowWidths.{RowsOf, Widths, Follows, LastThree, TablesLaid}

widths_at : (ws : List ℕ) (ts : List Table) (n : ℕ) → Widths ws ts → n < length ws → RowsOf (get_or ws n 0) (table_of ts n)
widths_at [] ts n h k = absurd (omega arith)
widths_at (w ∷ ws) [] n h k = absurd h
widths_at (w ∷ ws) (t ∷ ts) zero h k = h.0
widths_at (w ∷ ws) (t ∷ ts) (suc n) h k = widths_at ws ts n h.1 (omega arith)

pub widths_more : (ws : List ℕ) (ts : List Table) (w : ℕ) (t : Table) → Widths ws ts → RowsOf w t
    → Widths (ws ++ (w ∷ [])) (ts ++ (t ∷ []))
widths_more [] [] w t h k = (k, tt)
widths_more [] (u ∷ ts) w t h k = absurd h
widths_more (v ∷ ws) [] w t h k = absurd h
widths_more (v ∷ ws) (u ∷ ts) w t h k = (h.0, widths_more ws ts w t h.1 k)

-- Each operator's table

length_snoc : (r : Row) (z : ℤ) (w : ℕ) → length r ≡ w → length (r ++ (z ∷ [])) ≡ w + 1
length_snoc r z w e = length-append r (z ∷ []) ∙ ap (◌+ 1) e

wide_attach : (t : Table) (z : ℤ) (w : ℕ) → RowsOf w t → RowsOf (w + 1) (attach t z)
unfolding attach
wide_attach t z w h = all_mapped _ _ t (all_map t (λ r e. length_snoc r z w e) h)

wide_project : (t : Table) (cs : List ℕ) → RowsOf (length cs) (project t cs)
unfolding project
wide_project t cs = all_mapped _ _ t (all_any t (λ r. length-map cs (cell r)))

all_gather : {A B : Type 0} (P : B → Type 0) (f : A → List B) (xs : List A) → All (λ x. All P (f x)) xs
    → All P (gather f xs)
unfolding gather
all_gather P f [] h = tt
all_gather P f (x ∷ xs) h = all_append P (f x) (gather f xs) h.0 (all_gather P f xs h.1)

-- the rows that join one row
wide_joined : (r : Row) (u : Table) (p : Row → Bool) (w v : ℕ) → length r ≡ w → RowsOf v u
    → RowsOf (w + v) (map (λ (s : Row). r ++ s) (filter p u))
wide_joined r u p w v e k =
    all_mapped _ _ (filter p u)
    (all_map {P = λ (s : Row). length s ≡ v} (filter p u) (λ s d. length-append r s ∙ ap₂ ◌+◌ e d)
    (all_kept p _ u k))

wide_join : (t u : Table) (c d w v : ℕ) → RowsOf w t → RowsOf v u → RowsOf (w + v) (join t c u d)
unfolding join
wide_join t u c d w v h k = all_gather _ _ t (all_map t (λ r e. wide_joined r u _ w v e k) h)

wide_numbered : (group : Row → Row → Bool) (earlier t : Table) (w : ℕ) → RowsOf w t
    → RowsOf (w + 1) (numbered_after group earlier t)
unfolding numbered_after
wide_numbered group earlier [] w h = tt
wide_numbered group earlier (r ∷ rs) w h =
    (length_snoc r _ w h.0, wide_numbered group (r ∷ earlier) rs w h.1)

wide_number : (t : Table) (p : ℕ) (ks : List ℕ) (w : ℕ) → RowsOf w t → RowsOf (w + 1) (number t p ks)
unfolding number
wide_number t p ks w h = wide_numbered _ [] _ w (all_sort _ _ t h)

wide_counts : (t : Table) (c : ℕ) → RowsOf 2 (counts t c)
unfolding counts
wide_counts t c = all_mapped _ _ (groups t c) (all_any (groups t c) (λ x. refl))

-- what `each` gives, where each member gives wide rows
given_each : {A : Type 0} {w : ℕ} (f : A → Attempt Table) (xs : List A) → All (λ x. Given (RowsOf w) (f x)) xs
    → Given (RowsOf w) (each f xs)
unfolding each
given_each f [] h = given_gives tt
given_each f (x ∷ xs) h =
    given_attempt h.0 (λ ys k. given_attempt (given_each f xs h.1) (λ zs l. given_gives (all_append _ ys zs k l)))

given_added : (f : Row → Attempt ℤ) (t : Table) (w : ℕ) → RowsOf w t → Given (RowsOf (w + 1)) (added f t)
unfolding added
given_added f t w h =
    given_each _ t (all_map t (λ r e. given_any (f r) (λ z. given_gives (length_snoc r z w e, tt))) h)

given_truths : (w : World) (t : Table) → Given (RowsOf 2) (truths w t)
unfolding truths
given_truths w t =
    given_each _ (groups t 0) (all_any (groups t 0) (λ x. given_any _ (λ b. given_gives (refl, tt))))

given_steps : (w : World) (t : Table) (axis : Axis) (test : Test) → Given (RowsOf 2) (steps w axis test t)
unfolding steps
given_steps w t axis test =
    given_each _ (groups t 0)
    (all_any (groups t 0) (λ x. given_any _ (λ ys. given_gives (all_mapped _ _ ys (all_any ys (λ y. refl))))))

-- An operator on tables of known widths

module _ (ws : List ℕ) (ts : List Table) (h : Widths ws ts) where
  wide_table : (t w : ℕ) → table_width ws t ≡ gives w → RowsOf w (table_of ts t)
  unfolding table_width
  wide_table t w e =
      let (b, d) = provided_gives (ltb t (length ws)) _ w e in
      subst (λ (v : ℕ). RowsOf v (table_of ts t)) (gives_same d) (widths_at ws ts t h (ltb-true t (length ws) b))

  -- .. one table; the width of what is made is the one worked out
  from_one : {a : Attempt Table} (t v : ℕ) (f : ℕ → Attempt ℕ) → attempt (table_width ws t) f ≡ gives v
      → ((w : ℕ) → RowsOf w (table_of ts t) → f w ≡ gives v → Given (RowsOf v) a) → Given (RowsOf v) a
  from_one t v f e k = let (w, p, q) = attempt_gives (table_width ws t) f v e in k w (wide_table t w p) q

  as_given : {a : Attempt Table} (w v : ℕ) (b : Bool) → provided b (gives w) ≡ gives v → Given (RowsOf w) a
      → Given (RowsOf v) a
  as_given {a} w v b e g = subst (λ (n : ℕ). Given (RowsOf n) a) (gives_same (provided_gives b _ v e).1) g

  within_6 : {a : Attempt Table} (w v : ℕ) → up_to6 w ≡ gives v → Given (RowsOf w) a → Given (RowsOf v) a
  unfolding up_to6
  within_6 w v e g = as_given w v _ e g

  pub make_wide : (w : World) (o : Op) (v : ℕ) → width_of ws o ≡ gives v → Given (RowsOf v) (make w o ts)
  unfolding width_of make minus select rooted
  make_wide w RT v e = subst (λ (n : ℕ). Given (RowsOf n) (make w RT ts)) (gives_same e) (given_gives (refl, tt))
  make_wide w (RA t z) v e =
      from_one t v _ e (λ x k q. within_6 (x + 1) v q (given_gives (wide_attach _ z x k)))
  make_wide w (RP t cs) v e =
      from_one t v _ e
      (λ x k q. within_6 (length cs) v (provided_gives (columns x cs) _ v q).1 (given_gives (wide_project _ cs)))
  make_wide w (RU t u) v e =
      from_one t v _ e (λ x k q. from_one u v _ q (λ y l d.
      let same : x ≡ y = eqb-true x y (provided_gives (eqb x y) _ v d).0 in
      as_given x v _ d
      (given_gives
      (all_append _ (table_of ts t) (table_of ts u) k (subst (λ (n : ℕ). RowsOf n (table_of ts u)) (sym same) l)))))
  make_wide w (RD t u) v e =
      from_one t v _ e (λ x k q. from_one u v _ q (λ y l d. as_given x v _ d (given_gives (all_kept _ _ _ k))))
  make_wide w (RS t c) v e =
      from_one t v _ e (λ x k q. as_given x v _ q (given_gives (all_kept _ _ _ k)))
  make_wide w (RJ t c u d) v e =
      from_one t v _ e
      (λ x k q. from_one u v _ q
      (λ y l p. within_6 (x + y) v (provided_gives _ _ v p).1 (given_gives (wide_join _ _ c d x y k l))))
  make_wide w (RN t p ks) v e =
      from_one t v _ e
      (λ x k q. within_6 (x + 1) v (provided_gives _ _ v q).1 (given_gives (wide_number _ p ks x k)))
  make_wide w (RF t f c d) v e =
      from_one t v _ e (λ x k q. within_6 (x + 1) v (provided_gives _ _ v q).1 (given_added _ _ x k))
  make_wide w (RV t c) v e =
      from_one t v _ e (λ x k q. within_6 (x + 1) v (provided_gives _ _ v q).1 (given_added _ _ x k))
  make_wide w (RC t c) v e = from_one t v _ e (λ x k q. as_given 2 v _ q (given_gives (wide_counts _ c)))
  make_wide w (RE t) v e = from_one t v _ e (λ x k q. as_given 2 v _ q (given_truths w _))
  make_wide w (RK t c) v e =
      from_one t v _ e (λ x k q. as_given x v _ q (given_provided _ (λ b. given_gives k)))
  make_wide w (RX t axis test) v e = from_one t v _ e (λ x k q. as_given 2 v _ q (given_steps w _ axis test))
  make_wide w (RO t k) v e = from_one t v _ e (λ x l q. within_6 (x + 1) v q (given_added _ _ x l))

-- The plan's check: each operator fits the tables before it, with the width it has

-- operators that are read after those in ps
record After (ps qs : List Placed) : Type 0 where
  rest : List Placed
  whole : qs ≡ ps ++ rest
  sound : Follows (widths_of ps) rest
  last : LastThree qs

ended_after : (ps : List Placed) → Found (After ps) (ended ps)
unfolding ended
ended_after [] = found_refuses
ended_after (p ∷ ps) =
    found_unless (eqb (last_of p ps).width 3) 5 (last_of p ps).at
    (λ t. found_reads (record { rest = []; whole = sym (append-nil (p ∷ ps)); sound = tt; last = eqb-true _ 3 t }))

placed_given : (bs ws : List ℕ) (at : ℕ)
    → Given (λ (o : Placed × ℕ). width_of ws o.0.op ≡ gives o.0.width) (placed_at bs ws at)
unfolding placed_at
placed_given bs ws at =
    given_any (operator_at bs at)
    (λ o. given_attempt {P = λ w. width_of ws o.0 ≡ gives w} (record { given = λ w e. e }) (λ w e. given_gives e))

-- one operator more before those that are read
after_one : (ps qs : List Placed) (p : Placed) → width_of (widths_of ps) p.op ≡ gives p.width
    → After (ps ++ (p ∷ [])) qs → After ps qs
after_one ps qs p e a =
    record {
      rest = p ∷ a.rest;
      whole = a.whole ∙ append_assoc ps (p ∷ []) a.rest;
      sound = (e, subst (λ (ws : List ℕ). Follows ws a.rest) (map_append _ ps (p ∷ [])) a.sound);
      last = a.last;
    }

from_after : (left : ℕ) (bs : List ℕ) (ps : List Placed) (at : ℕ) → Found (After ps) (plan_from left bs ps at)
unfolding plan_from
from_after zero bs ps at = go (leb (length bs) at)
  where
    go : (t : Bool) → Found (After ps) (elim t [ true ↦ ended ps | false ↦ refuses 5 at ])
    go true = ended_after ps
    go false = found_refuses
from_after (suc left) bs ps at =
    go (leb (length bs) at)
    (found_reading (found_refusing 5 at (placed_given bs (widths_of ps) at))
    (λ o e. record {
      found = λ qs d. after_one ps qs o.0 e ((from_after left bs (ps ++ (o.0 ∷ [])) o.1).found qs d);
    }))
  where
    go : {m : Reading (List Placed)} (t : Bool) → Found (After ps) m
        → Found (After ps) (elim t [ true ↦ ended ps | false ↦ m ])
    go true h = ended_after ps
    go false h = h

pub read_sound : (bs : List ℕ) (ps : List Placed) → plan_read bs ≡ reads ps → Follows [] ps × LastThree ps
unfolding plan_read
read_sound bs ps e =
    let a = (from_after 512 bs [] 0).found ps e in
    (subst (λ (qs : List Placed). Follows [] qs) (sym a.whole) a.sound, a.last)

-- A run of a sound plan

pub flat_wide : (t : Table) (w : ℕ) → RowsOf w t → length (flat t) ≡ length t * w
unfolding flat gather
flat_wide [] w h = sym (zero-mul w)
flat_wide (r ∷ t) w h = omega (arith, length-append r (flat t), h.0, flat_wide t w h.1, suc-mul (length t) w)

-- the cells of the last table stand behind those of the others
pub flat_last : (ts : List Table) → (front : List ℤ) × (gather flat ts ≡ front ++ flat (last_table ts))
unfolding gather last_table flat
flat_last [] = ([], refl)
flat_last (t ∷ []) = ([], append-nil (flat t))
flat_last (t ∷ u ∷ ts) =
    let (front, e) = flat_last (u ∷ ts) in
    (flat t ++ front, ap (λ (xs : List ℤ). flat t ++ xs) e ∙ sym (append_assoc (flat t) front _))

-- one table more
flat_more : (ts : List Table) (t : Table) (w : ℕ) → RowsOf w t
    → length (gather flat ts) + length t * w ≡ length (gather flat (ts ++ (t ∷ [])))
unfolding gather
flat_more [] t w h = omega (arith, flat_wide t w h, ap length (append-nil (flat t)))
flat_more (u ∷ ts) t w h =
    omega (
      arith,
      length-append (flat u) (gather flat ts),
      length-append (flat u) (gather flat (ts ++ (t ∷ []))),
      flat_more ts t w h,
    )

pub last_wide : (p : Placed) (ps : List Placed) (ts : List Table) → Widths (widths_of (p ∷ ps)) ts
    → RowsOf (last_of p ps).width (last_table ts)
unfolding last_of last_table
last_wide p ps [] h = absurd h
last_wide p [] (t ∷ []) h = h.0
last_wide p [] (t ∷ u ∷ ts) h = absurd h.1
last_wide p (q ∷ qs) (t ∷ []) h = absurd h.1
last_wide p (q ∷ qs) (t ∷ u ∷ ts) h = last_wide q qs (u ∷ ts) h.1

-- work that is done
trying_done : {A B : Type 0} (at : ℕ) (a : Attempt A) (f : A → Work B) (y : B) → trying at a f ≡ done y
    → (x : A) × (a ≡ gives x) × (f x ≡ done y)
unfolding trying
trying_done at fails f y e = absurd (failed_done at y e)
trying_done at (gives x) f y e = (x, refl, e)

done_same : {A : Type 0} {x y : A} → done x ≡ done y → x ≡ y
done_same e = cc

within_done : {A : Type 0} (b : Bool) (at : ℕ) (m : Work A) (y : A) → within b at m ≡ done y → m ≡ done y
unfolding within
within_done true at m y e = e
within_done false at m y e = absurd (full_done at y e)

running_widths : (w : World) (room : ℕ) (ps : List Placed) (ws : List ℕ) (ts : List Table) (n : ℕ) (f : Filled)
    → Follows ws ps → Widths ws ts → n ≡ length (gather flat ts) → running w room ps ts n ≡ done f
    → TablesLaid (ws ++ widths_of ps) f
unfolding running cells
running_widths w room [] ws ts n f s h k e =
    subst (TablesLaid (ws ++ [])) (done_same e)
    (record { widths = subst (λ (us : List ℕ). Widths us ts) (sym (append-nil ws)) h; cells = k })
running_widths w room (p ∷ ps) ws ts n f s h k e =
    let (t, d, r) = trying_done p.at (make w p.op ts) _ f e in
    let wide : RowsOf p.width t = (make_wide ws ts h w p.op p.width s.0).given t d in
    subst (λ (us : List ℕ). TablesLaid us f) (append_assoc ws (p.width ∷ []) (widths_of ps))
    (running_widths w room ps (ws ++ (p.width ∷ [])) (ts ++ (t ∷ [])) (n + length t * p.width) f s.1
    (widths_more ws ts p.width t h wide) (ap (◌+ length t * p.width) k ∙ flat_more ts t p.width wide)
    (within_done _ p.at _ f r))

pub running_laid : (w : World) (room : ℕ) (ps : List Placed) (f : Filled) → Follows [] ps
    → running w room ps [] 0 ≡ done f → TablesLaid (widths_of ps) f
unfolding gather
running_laid w room ps f s e = running_widths w room ps [] [] 0 f s tt refl e
