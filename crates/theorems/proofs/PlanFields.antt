-- What the operators of a translated plan need to be written (document 01, 'Plan operators' and 'Translation').
--     plan_sound        a plan fits, each of its widths is 1 to 6, and each of its operators can be written
use Prim.Native.Nat.{ℕ, ◌+◌, ◌≤◌, ◌<◌}
use mathlib.Core.Path.{◌≡◌, refl, subst}
use mathlib.Core.List.{List, [], ◌∷◌, ◌++◌}
use mathlib.Core.Bool.{true, ◌&&◌, ◌||◌}
use native.Mathlib.Omega.{arith}
use lib.Dec.{eqb, ltb, leb, lit≤}
use lib.IntN.{ℤ}
use lib.ListN.{length, get_or, length-append}
use borrow.Author.Tests.{ltb-true, leb-true, eqb-true}
use Rattle.laws.specs.Lists.{all}
use Rattle.cells.specs.Cell.{held}
use Rattle.codes.specs.declared.Function.{Function}
use Rattle.codes.specs.declared.Axis.{Axis}
use Rattle.codes.specs.declared.Test.{Test}
use Rattle.laws.specs.Attempt.{Attempt, gives, attempt, provided}
use Rattle.meaning.specs.Query.{Query, QL, QE, QR, QV, QS, QT, QF, QI, QO, QC, QD, QX}
use Rattle.meaning.specs.Plan.{Op, RT, RA, RP, RU, RD, RS, RJ, RN, RF, RV, RC, RE, RK, RX, RO, plain_in, table_width}
use Rattle.meaning.specs.Plan.{up_to6, columns, width_of}
use Rattle.meaning.specs.Translation.{Made, Tables, next, free_in, others_in, lifts, rule_l, rule_r, rule_e, tail_s, head_f}
use Rattle.meaning.specs.Translation.{tail_f, head_i, tail_o, tail_c, tail_d, tail_x, then, tr, tail_last, plan}
use Rattle.codes.specs.Codes.{test_name}
use Rattle.theorems.specs.Closed.{Closed}
use Rattle.theorems.proofs.PlanWidths.{every_get_d, every_append, or_true, attempt_gives, provided_gives}
use Rattle.theorems.proofs.PlanWidths.{plan_widths}
use Rattle.theorems.specs.PlanWidths.{Every, widths}
use Rattle.laws.proofs.Booleans.{both_true}
use Rattle.theorems.specs.PlanFields.{Own, Writable, WidthFits, Fields, PlanSound}

-- What an operator needs to be written

columns_small : (w : ℕ) (cs : List ℕ) → w ≤ 6 → columns w cs ≡ true → Every (λ c. c < 256) cs
unfolding columns all Every
columns_small w [] h e = tt
columns_small w (c ∷ cs) h e =
    let (p, q) = both_true (ltb c w) (columns w cs) e in
    (omega (arith, ltb-true c w p), columns_small w cs h q)

width_2 : WidthFits 2
width_2 = record { low = lit≤ tt; high = lit≤ tt }

up_to6_is : (v w : ℕ) → up_to6 v ≡ gives w → (v ≤ 6) × (v ≡ w)
unfolding up_to6
up_to6_is v w e =
    let (p, q) = provided_gives (leb v 6) (gives v) w e in
    (leb-true v 6 p, let r : v ≡ w = cc in r)

up_to6_gives : (v w : ℕ) → 1 ≤ v → up_to6 v ≡ gives w → WidthFits w
up_to6_gives v w h e =
    let (p, q) = up_to6_is v w e in
    record { low = omega arith; high = omega arith }

sum_low : (v x : ℕ) → 1 ≤ v → 1 ≤ v + x
sum_low v x h = omega arith

-- a table that an operator names, of width w
record Known (t w : ℕ) : Type 0 where
  small : t < 65536
  width : WidthFits w

-- a column that is there
column_small : (c : ℕ) {w : ℕ} → WidthFits w → ltb c w ≡ true → c < 256
column_small c {w} h e = omega (arith, ltb-true c w e, h.high)

group_small : (p : ℕ) {w : ℕ} → WidthFits w → eqb p 255 || ltb p w ≡ true → p < 256
group_small p {w} h e = or_true (eqb p 255) (ltb p w) (λ a. omega (arith, eqb-true p 255 a)) (column_small p h) e

more : (v w : ℕ) → up_to6 (v + 1) ≡ gives w → WidthFits w
more v w e = up_to6_gives (v + 1) w (omega arith) e

same_width : {v w : ℕ} → WidthFits v → ◌≡◌ {A = Attempt ℕ} (gives v) (gives w) → WidthFits w
same_width {v} {w} h e = subst WidthFits (let r : v ≡ w = cc in r) h

record CheckedOp (o : Op) (w : ℕ) : Type 0 where
  writable : Writable o
  width : WidthFits w

-- an operator that fits tables of widths 1 to 6, its own fields right, can be written and makes a width of 1 to 6
module _ (ws : List ℕ) (hw : Every WidthFits ws) (few : length ws ≤ 65536) where
  table_gives : (t w : ℕ) → table_width ws t ≡ gives w → Known t w
  unfolding table_width
  table_gives t w e =
      let (p, q) = provided_gives (ltb t (length ws)) (gives (get_or ws t 0)) w e in
      let h = ltb-true t (length ws) p in
      record { small = omega arith; width = same_width (every_get_d WidthFits ws t hw h) q }

  one_table :
      (t w : ℕ) (f : ℕ → Attempt ℕ) → attempt (table_width ws t) f ≡ gives w → (v : ℕ) × Known t v × (f v ≡ gives w)
  one_table t w f e =
      let (v, p, q) = attempt_gives (table_width ws t) f w e in
      (v, table_gives t v p, q)

  two_tables :
      (t u w : ℕ) (f : ℕ → ℕ → Attempt ℕ) → attempt (table_width ws t) (λ v. attempt (table_width ws u) (f v)) ≡ gives w →
      (v x : ℕ) × Known t v × Known u x × (f v x ≡ gives w)
  two_tables t u w f e =
      let (v, k, p) = one_table t w (λ v. attempt (table_width ws u) (f v)) e in
      let (x, m, q) = one_table u w (f v) p in
      (v, x, k, m, q)

  two_equal :
      (t u w : ℕ) →
      attempt (table_width ws t) (λ w. attempt (table_width ws u) (λ v. provided (eqb w v) (gives w))) ≡ gives w →
      Known t w × (u < 65536)
  two_equal t u w e =
      let (v, x, k, m, q) = two_tables t u w (λ w v. provided (eqb w v) (gives w)) e in
      let (p, r) = provided_gives (eqb v x) (gives v) w q in
      (record { small = k.small; width = same_width k.width r }, m.small)

  one_column :
      (t c w : ℕ) (f : ℕ → Attempt ℕ) → attempt (table_width ws t) (λ v. provided (ltb c v) (f v)) ≡ gives w →
      (v : ℕ) × Known t v × (c < 256) × (f v ≡ gives w)
  one_column t c w f e =
      let (v, k, q) = one_table t w (λ v. provided (ltb c v) (f v)) e in
      let (p, r) = provided_gives (ltb c v) (f v) w q in
      (v, k, column_small c k.width p, r)

  checked : (o : Op) (w : ℕ) → Own o → width_of ws o ≡ gives w → CheckedOp o w
  unfolding Own Writable width_of
  checked RT w h e = record { writable = tt; width = same_width (record { low = lit≤ tt; high = lit≤ tt }) e }
  checked (RA t z) w h e =
      let (v, k, q) = one_table t w (λ w. up_to6 (w + 1)) e in
      record { writable = (k.small, h); width = more v w q }
  checked (RP t cs) w h e =
      let (v, k, q) = one_table t w (λ v. provided (columns v cs) (up_to6 (length cs))) e in
      let (p, r) = provided_gives (columns v cs) (up_to6 (length cs)) w q in
      let six = up_to6_is (length cs) w r in
      record {
        writable = (k.small, h, six.0, columns_small v cs k.width.high p);
        width = up_to6_gives (length cs) w h r;
      }
  checked (RU t u) w h e =
      let (k, m) = two_equal t u w e in
      record { writable = (k.small, m); width = k.width }
  checked (RD t u) w h e =
      let (k, m) = two_equal t u w e in
      record { writable = (k.small, m); width = k.width }
  checked (RS t c) w h e =
      let (v, k, m, q) = one_column t c w (λ v. gives v) e in
      record { writable = (k.small, m); width = same_width k.width q }
  checked (RJ t c u d) w h e =
      let (v, x, k, m, q) = two_tables t u w (λ w v. provided (ltb c w && ltb d v) (up_to6 (w + v))) e in
      let (p, r) = provided_gives (ltb c v && ltb d x) (up_to6 (v + x)) w q in
      let (a, b) = both_true (ltb c v) (ltb d x) p in
      record {
        writable = (k.small, column_small c k.width a, m.small, column_small d m.width b);
        width = up_to6_gives (v + x) w (sum_low v x k.width.low) r;
      }
  checked (RN t p ks) w h e =
      let (v, k, q) = one_table t w (λ w. provided ((eqb p 255 || ltb p w) && columns w ks) (up_to6 (w + 1))) e in
      let (s, r) = provided_gives ((eqb p 255 || ltb p v) && columns v ks) (up_to6 (v + 1)) w q in
      let (a, b) = both_true (eqb p 255 || ltb p v) (columns v ks) s in
      record {
        writable = (k.small, group_small p k.width a, h.0, h.1, columns_small v ks k.width.high b);
        width = more v w r;
      }
  checked (RF t f c d) w h e =
      let (v, k, q) = one_table t w (λ w. provided (ltb c w && ltb d w) (up_to6 (w + 1))) e in
      let (p, r) = provided_gives (ltb c v && ltb d v) (up_to6 (v + 1)) w q in
      let (a, b) = both_true (ltb c v) (ltb d v) p in
      record { writable = (k.small, column_small c k.width a, column_small d k.width b); width = more v w r }
  checked (RV t c) w h e =
      let (v, k, m, q) = one_column t c w (λ v. up_to6 (v + 1)) e in
      record { writable = (k.small, m); width = more v w q }
  checked (RC t c) w h e =
      let (v, k, m, q) = one_column t c w (λ v. gives 2) e in
      record { writable = (k.small, m); width = same_width width_2 q }
  checked (RE t) w h e =
      let (v, k, q) = one_table t w (λ w. provided (eqb w 3) (gives 2)) e in
      record { writable = k.small; width = same_width width_2 (provided_gives (eqb v 3) (gives 2) w q).1 }
  checked (RK t c) w h e =
      let (v, k, m, q) = one_column t c w (λ v. gives v) e in
      record { writable = (k.small, m); width = same_width k.width q }
  checked (RX t x y) w h e =
      let (v, k, q) = one_table t w (λ w. provided (eqb w 2) (gives 2)) e in
      record { writable = (k.small, h); width = same_width width_2 (provided_gives (eqb v 2) (gives 2) w q).1 }
  checked (RO t k) w h e =
      let (v, m, q) = one_table t w (λ w. up_to6 (w + 1)) e in
      record { writable = (m.small, h.0, h.1); width = more v w q }

pub widths_checked :
    (os : List Op) (ws us : List ℕ) → Every WidthFits ws → length ws + length os ≤ 65536 → Every Own os →
    widths ws os ≡ gives us → Every Writable os × Every WidthFits us
unfolding widths Every
widths_checked [] ws us hw few h e = (tt, subst (Every WidthFits) (let p : ws ≡ us = cc in p) hw)
widths_checked (o ∷ os) ws us hw few h e =
    let (w, p, q) = attempt_gives (width_of ws o) (λ w. widths (ws ++ (w ∷ [])) os) us e in
    let c = checked ws hw (omega arith) o w h.0 p in
    let more = every_append WidthFits ws (w ∷ []) hw (c.width, tt) in
    let (a, b) = widths_checked os (ws ++ (w ∷ [])) us more (simp length-append (omega arith)) h.1 q in
    ((c.writable, a), b)

-- The fields of a query's literals, roots and names

-- operators, and those of x, with their own fields right
record Owned (os : List Op) : Type 0 where
  each : Every Own os

record Owning (x : Made) : Type 0 where
  each : Every Own x.ops

owned : {x : Made} → Owning x → Owned x.ops
owned h = record { each = h.each }

own_then : {os : List Op} {y : Made} → Owned os → Owning y → Owning (then os y)
unfolding then
own_then {os} {y} h k = record { each = every_append Own os y.ops h.each k.each }

lifts_own : (e : Tables) (m a b c n : ℕ) (us : List ℕ) → Every Own (lifts e m (a ∷ b ∷ c ∷ []) n us)
unfolding lifts Every Own
lifts_own e m a b c n [] = tt
lifts_own e m a b c n (v ∷ us) = (tt, (lit≤ tt, lifts_own e m a b c (n + 2) us))

own_lifts : (e : Tables) (m a b c n : ℕ) (us : List ℕ) → Owned (lifts e m (a ∷ b ∷ c ∷ []) n us)
own_lifts e m a b c n us = record { each = lifts_own e m a b c n us }

-- the fixed operators of each rule
own_S : (n a b : ℕ) → Owning (tail_s n a b)
unfolding tail_s Every Own plain_in held
own_S n a b = record { each = (refl, (refl, (tt, ((lit≤ tt, lit≤ tt), (lit≤ tt, tt))))) }

own_head_f : (n a : ℕ) → Owned (head_f n a)
unfolding head_f Every Own plain_in held
own_head_f n a = record { each = ((lit≤ tt, lit≤ tt), (refl, (lit≤ tt, (lit≤ tt, (lit≤ tt, tt))))) }

own_tail_f : (n b m : ℕ) → Owning (tail_f n b m)
unfolding tail_f Every Own
own_tail_f n b m = record { each = (tt, ((lit≤ tt, lit≤ tt), (lit≤ tt, tt))) }

own_head_i : (n l c : ℕ) → Owned (head_i n l c)
unfolding head_i Every Own
own_head_i n l c = record { each = (tt, (tt, (lit≤ tt, (tt, tt)))) }

own_U : (a b n : ℕ) → Owning (record { ops = RU a b ∷ []; result = n })
unfolding Every Own
own_U a b n = record { each = (tt, tt) }

own_O : (n : ℕ) (f : Function) (a b : ℕ) → Owning (tail_o n f a b)
unfolding tail_o Every Own
own_O n f a b = record { each = (tt, (tt, (tt, (lit≤ tt, (tt, (lit≤ tt, tt)))))) }

own_C : (n l a : ℕ) → Owning (tail_c n l a)
unfolding tail_c Every Own plain_in held
own_C n l a = record { each = (tt, (lit≤ tt, (tt, (refl, (tt, (refl, (lit≤ tt, tt))))))) }

own_D : (n a : ℕ) → Owning (tail_d n a)
unfolding tail_d Every Own
own_D n a = record { each = (tt, (lit≤ tt, tt)) }

own_X : (n : ℕ) (x : Axis) (y : Test) (a : ℕ) → test_name y < 65536 → Owning (tail_x n x y a)
unfolding tail_x Every Own
own_X n x y a h = record { each = (lit≤ tt, (h, ((lit≤ tt, lit≤ tt), (lit≤ tt, tt)))) }

own_T : Every Own (RT ∷ [])
unfolding Every Own
own_T = (tt, tt)

own_last : (n a : ℕ) → Every Own (tail_last n a)
unfolding tail_last Every Own
own_last n a = ((lit≤ tt, lit≤ tt), (lit≤ tt, tt))

abbrev Owns : Query → Type 0
Owns q = (n l : ℕ) (e : Tables) → Fields q → Owning (tr q n l e)

owns_QL : (at : ℕ) (z : ℤ) → Owns (QL at z)
unfolding tr rule_l Fields Every Own plain_in held
owns_QL at z n l e h = record { each = (refl, (h, tt)) }

owns_QE : (at : ℕ) → Owns (QE at)
unfolding tr rule_e Fields Every Own plain_in held
owns_QE at n l e h = record { each = (refl, (refl, (tt, tt))) }

owns_QR : (at k : ℕ) → Owns (QR at k)
unfolding tr rule_r Fields Every Own plain_in held
owns_QR at k n l e h = record { each = (refl, (h, tt)) }

owns_QV : (at v : ℕ) → Owns (QV at v)
unfolding tr Every
owns_QV at v n l e h = record { each = tt }

owns_QS : (at : ℕ) (a b : Query) → Owns a → Owns b → Owns (QS at a b)
unfolding tr Fields
owns_QS at a b ha hb n l e h =
    own_then (owned (ha n l e h.0)) (own_then (owned (hb _ l e h.1)) (own_S _ _ _))

owns_QT : (at v : ℕ) (a b : Query) → Owns a → Owns b → Owns (QT at v a b)
unfolding tr Fields
owns_QT at v a b ha hb n l e h = own_then (owned (ha n l e h.0)) (hb _ l _ h.1)

owns_QF : (at v : ℕ) (a b : Query) → Owns a → Owns b → Owns (QF at v a b)
unfolding tr Fields
owns_QF at v a b ha hb n l e h =
    own_then (owned (ha n l e h.0))
    (own_then (own_head_f _ _)
    (own_then (own_lifts e _ 4 1 2 _ (others_in v b)) (own_then (owned (hb _ _ _ h.1)) (own_tail_f _ _ _))))

owns_QI : (at : ℕ) (c a b : Query) → Owns c → Owns a → Owns b → Owns (QI at c a b)
unfolding tr Fields
owns_QI at c a b hc ha hb n l e h =
    own_then (owned (hc n l e h.0))
    (own_then (own_head_i _ _ _)
    (own_then (own_lifts e _ 0 1 2 _ (free_in a))
    (own_then (owned (ha _ _ _ h.1))
    (own_then (own_lifts e _ 0 1 2 _ (free_in b)) (own_then (owned (hb _ _ _ h.2)) (own_U _ _ _))))))

owns_QO : (at : ℕ) (f : Function) (a b : Query) → Owns a → Owns b → Owns (QO at f a b)
unfolding tr Fields
owns_QO at f a b ha hb n l e h =
    own_then (owned (ha n l e h.0)) (own_then (owned (hb _ l e h.1)) (own_O _ f _ _))

owns_QC : (at : ℕ) (a : Query) → Owns a → Owns (QC at a)
unfolding tr Fields
owns_QC at a ha n l e h = own_then (owned (ha n l e h)) (own_C _ _ _)

owns_QD : (at : ℕ) (a : Query) → Owns a → Owns (QD at a)
unfolding tr Fields
owns_QD at a ha n l e h = own_then (owned (ha n l e h)) (own_D _ _)

owns_QX : (at : ℕ) (x : Axis) (t : Test) (a : Query) → Owns a → Owns (QX at x t a)
unfolding tr Fields
owns_QX at x t a ha n l e h = own_then (owned (ha n l e h.1)) (own_X _ x t _ h.0)

owns : (q : Query) → Owns q
owns q =
    elim q as (λ q. Owns q) [
      | QL at z ↦ owns_QL at z
      | QE at ↦ owns_QE at
      | QR at k ↦ owns_QR at k
      | QV at v ↦ owns_QV at v
      | QS at (a → ha) (b → hb) ↦ owns_QS at a b ha hb
      | QT at v (a → ha) (b → hb) ↦ owns_QT at v a b ha hb
      | QF at v (a → ha) (b → hb) ↦ owns_QF at v a b ha hb
      | QI at (c → hc) (a → ha) (b → hb) ↦ owns_QI at c a b hc ha hb
      | QO at f (a → ha) (b → hb) ↦ owns_QO at f a b ha hb
      | QC at (a → ha) ↦ owns_QC at a ha
      | QD at (a → ha) ↦ owns_QD at a ha
      | QX at x t (a → ha) ↦ owns_QX at x t a ha
    ]

pub plan_own : (q : Query) → Fields q → Every Own (plan q)
unfolding plan
plan_own q h =
    let x = tr q 1 0 (λ v. 0) in
    let last = tail_last (next 1 x) x.result in
    every_append Own (RT ∷ []) (x.ops ++ last) own_T
    (every_append Own x.ops last (owns q 1 0 (λ v. 0) h).each (own_last (next 1 x) x.result))

pub plan_sound : (q : Query) → Closed q [] → Fields q → length (plan q) ≤ 65536 → PlanSound (plan q)
plan_sound q c h few =
    let (ws, e) = plan_widths q c in
    let (a, b) = widths_checked (plan q) [] (ws ++ (3 ∷ [])) (unfold Every in tt) (omega arith) (plan_own q h) e in
    record { front = ws; sound = e; each = b; writable = a }
