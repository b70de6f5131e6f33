-- A translated plan is sound (document 01, 'Plan operators' and 'Translation').
--     tr_sound          under a loop table of width 1 and variables of width 3 each rule is sound
--     plan_widths       the widths of a whole plan, the last of them 3
use Prim.Native.Nat.{ℕ, zero, suc, ◌+◌, ◌<◌}
use mathlib.Core.Path.{◌≡◌, refl, sym, ◌∙◌, ap, subst}
use mathlib.Core.List.{List, [], ◌∷◌, ◌++◌, append-nil, append_assoc}
use mathlib.Core.Bool.{Bool, true, false, not, cond, ◌&&◌, ◌||◌, false≢true}
use native.Mathlib.Omega.{arith}
use lib.Dec.{T, ltb→lt, eqb, ltb, leb, lit<}
use lib.IntN.{ℤ}
use lib.ListN.{length, get_or, length-append, get_or-append}
use lib.Seq.{get_or-append-add, get_or-append_seam}
use borrow.Author.Tests.{lt-ltb, eq-eqb}
use Rattle.laws.specs.Lists.{filter, below, any, all}
use Rattle.cells.specs.Cell.{held}
use Rattle.codes.specs.declared.Function.{Function}
use Rattle.codes.specs.declared.Axis.{Axis}
use Rattle.codes.specs.declared.Test.{Test}
use Rattle.laws.specs.Attempt.{Attempt, fails, gives, attempt, provided}
use Rattle.meaning.specs.Query.{Query, QL, QE, QR, QV, QS, QT, QF, QI, QO, QC, QD, QX, free, bound}
use Rattle.meaning.specs.Plan.{Op, RT, RA, RP, RU, RD, RS, RJ, RN, RF, RV, RC, RE, RK, RX, RO, table_width, up_to6}
use Rattle.meaning.specs.Plan.{columns, width_of}
use Rattle.meaning.specs.Translation.{Made, Tables, next, hold, free_in, others_in, lifts, lifted, rule_l, rule_r, rule_e}
use Rattle.meaning.specs.Translation.{tail_s, head_f, tail_f, head_i, tail_o, tail_c, tail_d, tail_x, then, tr, tail_last, plan}
use Rattle.theorems.proofs.Closed.{free_bound}
use Rattle.theorems.specs.Closed.{Closed}
use Rattle.theorems.specs.PlanWidths.{Every, widths, TableWide, Fits, EndsWide, StepsWide, WellMade, EnvWide}

-- Lists, tests and attempts

pub every_get_d : (P : ℕ → Type 0) (xs : List ℕ) (i : ℕ) → Every P xs → i < length xs → P (get_or xs i 0)
unfolding Every
every_get_d P [] i h k = absurd (omega arith)
every_get_d P (x ∷ xs) zero h k = h.0
every_get_d P (x ∷ xs) (suc i) h k = every_get_d P xs i h.1 (omega arith)

every_map : {A : Type 0} {P Q : A → Type 0} → ((x : A) → P x → Q x) → (xs : List A) → Every P xs → Every Q xs
unfolding Every
every_map f [] h = tt
every_map f (x ∷ xs) h = (f x h.0, every_map f xs h.1)

module _ {A : Type 0} (P : A → Type 0) where
  every_cond : (t : Bool) (x : A) (xs : List A) → (t ≡ true → P x) → Every P xs → Every P (cond t (x ∷ xs) xs)
  unfolding Every
  every_cond true x xs h k = (h refl, k)
  every_cond false x xs h k = k

  every_filter : (p : A → Bool) → ((x : A) → p x ≡ true → P x) → (xs : List A) → Every P (filter p xs)
  unfolding filter Every
  every_filter p h [] = tt
  every_filter p h (x ∷ xs) = every_cond (p x) x (filter p xs) (h x) (every_filter p h xs)

  pub every_append : (xs ys : List A) → Every P xs → Every P ys → Every P (xs ++ ys)
  unfolding Every
  every_append [] ys h k = k
  every_append (x ∷ xs) ys h k = (h.0, every_append xs ys h.1 k)

pub or_true : {P : Type 0} (a b : Bool) → (a ≡ true → P) → (b ≡ true → P) → a || b ≡ true → P
or_true true b f g e = f refl
or_true false b f g e = g e

-- a test that excludes one value, and another test
other_true : {P : Type 0} (a b : Bool) → (a ≡ false → b ≡ true → P) → not a && b ≡ true → P
other_true true b f e = absurd (false≢true e)
other_true false b f e = f refl e

-- an attempt that gives, taken apart and put together
pub attempt_gives :
    {A B : Type 0} (a : Attempt A) (f : A → Attempt B) (b : B) → attempt a f ≡ gives b →
    (x : A) × (a ≡ gives x) × (f x ≡ gives b)
unfolding attempt
attempt_gives fails f b e = let z : ◌≡◌ {A = ℕ} 0 1 = cc in absurd (omega arith)
attempt_gives (gives x) f b e = (x, refl, e)

pub attempt_of :
    {A B : Type 0} (a : Attempt A) {x : A} (f : A → Attempt B) {b : Attempt B} → a ≡ gives x → f x ≡ b →
    attempt a f ≡ b
unfolding attempt
attempt_of a f p q = rw p q

pub provided_gives :
    {A : Type 0} (b : Bool) (a : Attempt A) (x : A) → provided b a ≡ gives x → (b ≡ true) × (a ≡ gives x)
unfolding provided
provided_gives true a x e = (refl, e)
provided_gives false a x e = let z : ◌≡◌ {A = ℕ} 0 1 = cc in absurd (omega arith)

-- Widths

-- Tables that are there stay there

table_wide : {ws : List ℕ} {t w : ℕ} → TableWide ws t w → table_width ws t ≡ gives w
unfolding table_width provided
table_wide {ws} {t} h = rw (lt-ltb t (length ws) h.there, h.is)

-- Each operator, on tables whose widths are known

module _ {ws : List ℕ} where
  -- what a table's width, or two tables' widths, come to
  one : {t w v : ℕ} (f : ℕ → Attempt ℕ) → TableWide ws t w → f w ≡ gives v → attempt (table_width ws t) f ≡ gives v
  one {t} f h p = attempt_of (table_width ws t) f (table_wide h) p

  two :
      {t u w v x : ℕ} (f : ℕ → ℕ → Attempt ℕ) →
      TableWide ws t w → TableWide ws u v → f w v ≡ gives x →
      attempt (table_width ws t) (λ w. attempt (table_width ws u) (f w)) ≡ gives x
  two {u} {w} f h k p = one (λ w. attempt (table_width ws u) (f w)) h (one (f w) k p)

  fit_RA : {t w : ℕ} {z : ℤ} → TableWide ws t w → leb (w + 1) 6 ≡ true → Fits ws (RA t z) (w + 1)
  unfolding width_of up_to6 provided
  fit_RA h p = record { is = one (λ w. up_to6 (w + 1)) h (rw p) }

  fit_RP :
      {t w : ℕ} {cs : List ℕ} → TableWide ws t w → columns w cs ≡ true → leb (length cs) 6 ≡ true →
      Fits ws (RP t cs) (length cs)
  unfolding width_of up_to6 provided
  fit_RP {cs} h p q = record { is = one (λ w. provided (columns w cs) (up_to6 (length cs))) h (rw (p, q)) }

  fit_RU : {t u w : ℕ} → TableWide ws t w → TableWide ws u w → Fits ws (RU t u) w
  unfolding width_of provided
  fit_RU {w} h k = record { is = two (λ w v. provided (eqb w v) (gives w)) h k (rw (eq-eqb w w refl)) }

  fit_RD : {t u w : ℕ} → TableWide ws t w → TableWide ws u w → Fits ws (RD t u) w
  unfolding width_of provided
  fit_RD {w} h k = record { is = two (λ w v. provided (eqb w v) (gives w)) h k (rw (eq-eqb w w refl)) }

  fit_RS : {t w c : ℕ} → TableWide ws t w → ltb c w ≡ true → Fits ws (RS t c) w
  unfolding width_of provided
  fit_RS {c} h p = record { is = one (λ w. provided (ltb c w) (gives w)) h (rw p) }

  fit_RJ :
      {t u w v c d : ℕ} → TableWide ws t w → TableWide ws u v → ltb c w && ltb d v ≡ true → leb (w + v) 6 ≡ true →
      Fits ws (RJ t c u d) (w + v)
  unfolding width_of up_to6 provided
  fit_RJ {c} {d} h k p q = record { is = two (λ w v. provided (ltb c w && ltb d v) (up_to6 (w + v))) h k (rw (p, q)) }

  fit_RN :
      {t p w : ℕ} {ks : List ℕ} → TableWide ws t w → (eqb p 255 || ltb p w) && columns w ks ≡ true
      → leb (w + 1) 6 ≡ true →
      Fits ws (RN t p ks) (w + 1)
  unfolding width_of up_to6 provided
  fit_RN {p} {ks} h a b =
      record { is = one (λ w. provided ((eqb p 255 || ltb p w) && columns w ks) (up_to6 (w + 1))) h (rw (a, b)) }

  fit_RF :
      {t w c d : ℕ} {f : Function} → TableWide ws t w → ltb c w && ltb d w ≡ true → leb (w + 1) 6 ≡ true →
      Fits ws (RF t f c d) (w + 1)
  unfolding width_of up_to6 provided
  fit_RF {c} {d} h p q = record { is = one (λ w. provided (ltb c w && ltb d w) (up_to6 (w + 1))) h (rw (p, q)) }

  fit_RV : {t w c : ℕ} → TableWide ws t w → ltb c w ≡ true → leb (w + 1) 6 ≡ true → Fits ws (RV t c) (w + 1)
  unfolding width_of up_to6 provided
  fit_RV {c} h p q = record { is = one (λ w. provided (ltb c w) (up_to6 (w + 1))) h (rw (p, q)) }

  fit_RC : {t w c : ℕ} → TableWide ws t w → ltb c w ≡ true → Fits ws (RC t c) 2
  unfolding width_of provided
  fit_RC {c} h p = record { is = one (λ w. provided (ltb c w) (gives 2)) h (rw p) }

  fit_RE : {t : ℕ} → TableWide ws t 3 → Fits ws (RE t) 2
  unfolding width_of provided
  fit_RE h = record { is = one (λ w. provided (eqb w 3) (gives 2)) h refl }

  fit_RK : {t w c : ℕ} → TableWide ws t w → ltb c w ≡ true → Fits ws (RK t c) w
  unfolding width_of provided
  fit_RK {c} h p = record { is = one (λ w. provided (ltb c w) (gives w)) h (rw p) }

  fit_RX : {t : ℕ} {x : Axis} {y : Test} → TableWide ws t 2 → Fits ws (RX t x y) 2
  unfolding width_of provided
  fit_RX h = record { is = one (λ w. provided (eqb w 2) (gives 2)) h refl }

  fit_RO : {t w k : ℕ} → TableWide ws t w → leb (w + 1) 6 ≡ true → Fits ws (RO t k) (w + 1)
  unfolding width_of up_to6 provided
  fit_RO h p = record { is = one (λ w. up_to6 (w + 1)) h (rw p) }

-- Operators one after another

wide_old : (ws vs : List ℕ) {t w : ℕ} → TableWide ws t w → TableWide (ws ++ vs) t w
wide_old ws vs {t} h =
    record { there = simp length-append (omega arith); is = get_or-append ws vs 0 t h.there ∙ h.is }

widths_kept : {t w : ℕ} (os : List Op) (ws us : List ℕ) → widths ws os ≡ gives us → TableWide ws t w → TableWide us t w
unfolding widths
widths_kept {t} {w} [] ws us e h = subst (λ us. TableWide us t w) (cc) h
widths_kept (o ∷ os) ws us e h =
    let (w, p, q) = attempt_gives (width_of ws o) (λ w. widths (ws ++ (w ∷ [])) os) us e in
    widths_kept os (ws ++ (w ∷ [])) us q (wide_old ws (w ∷ []) h)

pub widths_count : (os : List Op) (ws us : List ℕ) → widths ws os ≡ gives us → length us ≡ length ws + length os
unfolding widths
widths_count [] ws us e = let p : ws ≡ us = cc in rw (← p) (omega arith)
widths_count (o ∷ os) ws us e =
    let (w, p, q) = attempt_gives (width_of ws o) (λ w. widths (ws ++ (w ∷ [])) os) us e in
    let h = widths_count os (ws ++ (w ∷ [])) us q in
    omega (arith, simp length-append at h)

widths_then :
    (os ps : List Op) (ws us vs : List ℕ) →
    widths ws os ≡ gives us → widths us ps ≡ gives vs → widths ws (os ++ ps) ≡ gives vs
unfolding widths
widths_then [] ps ws us vs e f = let p : ws ≡ us = cc in rw p f
widths_then (o ∷ os) ps ws us vs e f =
    let (w, p, q) = attempt_gives (width_of ws o) (λ w. widths (ws ++ (w ∷ [])) os) us e in
    attempt_of (width_of ws o) (λ w. widths (ws ++ (w ∷ [])) (os ++ ps)) p (widths_then os ps (ws ++ (w ∷ [])) us vs q f)

kept : {ws us : List ℕ} {os : List Op} {t w : ℕ} → EndsWide ws os us → TableWide ws t w → TableWide us t w
kept {ws} {us} {os} x h = widths_kept os ws us x.is h

count : {ws us : List ℕ} {os : List Op} {n : ℕ} → EndsWide ws os us → n ≡ length ws → n + length os ≡ length us
count {ws} {us} {os} x e = omega (arith, widths_count os ws us x.is)

ends_then : {ws us vs : List ℕ} {os ps : List Op} → EndsWide ws os us → EndsWide us ps vs → EndsWide ws (os ++ ps) vs
ends_then {ws} {us} {vs} {os} {ps} x y = record { is = widths_then os ps ws us vs x.is y.is }

sound_then : {ws us : List ℕ} {os : List Op} {y : Made} → EndsWide ws os us → WellMade us y → WellMade ws (then os y)
unfolding then
sound_then x y = record { after = y.after; ends = ends_then x y.ends; result = y.result }

ends_none : {ws : List ℕ} → EndsWide ws [] ws
unfolding widths
ends_none = record { is = refl }

-- The rules: the operators of a rule by themselves, after n tables of widths ws

module _ (ws : List ℕ) {n : ℕ} (e : n ≡ length ws) where
  old : (vs : List ℕ) {t w : ℕ} → TableWide ws t w → TableWide (ws ++ vs) t w
  old vs h = wide_old ws vs h

  first : (v : ℕ) (vs : List ℕ) → TableWide (ws ++ v ∷ vs) n v
  first v vs = record { there = simp length-append (omega arith); is = rw e (get_or-append_seam ws v vs 0) }

  new : (vs : List ℕ) (j : ℕ) → T (ltb j (length vs)) → TableWide (ws ++ vs) (n + j) (get_or vs j 0)
  new vs j h =
      record {
        there = simp length-append (omega (arith, ltb→lt j (length vs) h));
        is = rw e (get_or-append-add ws vs j 0);
      }

  step :
      {vs : List ℕ} {o : Op} {os : List Op} {w : ℕ} {us : List ℕ} →
      Fits (ws ++ vs) o w → StepsWide ws (vs ++ (w ∷ [])) os us → StepsWide ws vs (o ∷ os) us
  unfolding widths
  step {vs} {o} {os} p q =
      let rest : ℕ → Attempt (List ℕ) = λ w. widths ((ws ++ vs) ++ (w ∷ [])) os in
      record { is = attempt_of (width_of (ws ++ vs) o) rest p.is (rw append_assoc q.is) }

  end : {us : List ℕ} → StepsWide ws us [] us
  unfolding widths
  end = record { is = refl }

  steps : {os : List Op} {us : List ℕ} → StepsWide ws [] os us → EndsWide ws os (ws ++ us)
  steps {os} {us} h = record { is = subst (λ xs. widths xs os ≡ gives (ws ++ us)) (append-nil ws) h.is }

  made : {x : Made} (us : List ℕ) → StepsWide ws [] x.ops us → TableWide (ws ++ us) x.result 3 → WellMade ws x
  made us h r = record { after = ws ++ us; ends = steps h; result = r }

  sound_L : {l : ℕ} (z : ℤ) → TableWide ws l 1 → WellMade ws (rule_l n l z)
  unfolding rule_l
  sound_L z hl = made (2 ∷ 3 ∷ []) (step (fit_RA (old _ hl) refl) (step (fit_RA (first _ _) refl) end)) (new _ 1 tt)

  sound_R : {l : ℕ} (k : ℕ) → TableWide ws l 1 → WellMade ws (rule_r n l k)
  unfolding rule_r
  sound_R k hl = made (2 ∷ 3 ∷ []) (step (fit_RA (old _ hl) refl) (step (fit_RO (first _ _) refl) end)) (new _ 1 tt)

  sound_E : {l : ℕ} → TableWide ws l 1 → WellMade ws (rule_e n l)
  unfolding rule_e
  sound_E hl =
      made (2 ∷ 3 ∷ 3 ∷ [])
      (step (fit_RA (old _ hl) refl) (step (fit_RA (first _ _) refl) (step (fit_RD (new _ 1 tt) (new _ 1 tt)) end)))
      (new _ 2 tt)

  sound_S : {a b : ℕ} → TableWide ws a 3 → TableWide ws b 3 → WellMade ws (tail_s n a b)
  unfolding tail_s columns all
  sound_S ha hb =
      made (4 ∷ 4 ∷ 4 ∷ 5 ∷ 3 ∷ [])
      (step (fit_RA (old _ ha) refl)
      (step (fit_RA (old _ hb) refl)
      (step (fit_RU (first 4 _) (new _ 1 tt))
      (step (fit_RN (new _ 2 tt) refl refl)
      (step (fit_RP (new _ 3 tt) refl refl) end)))))
      (new _ 4 tt)

  ends_F : {a : ℕ} → TableWide ws a 3 → EndsWide ws (head_f n a) (ws ++ (4 ∷ 5 ∷ 3 ∷ 1 ∷ 2 ∷ []))
  unfolding head_f columns all
  ends_F ha =
      steps
      (step (fit_RN (old _ ha) refl refl)
      (step (fit_RA (first _ _) refl)
      (step (fit_RP (new _ 1 tt) refl refl)
      (step (fit_RP (first _ _) refl refl)
      (step (fit_RP (first _ _) refl refl) end)))))

  sound_F : {b m : ℕ} → TableWide ws b 3 → TableWide ws m 2 → WellMade ws (tail_f n b m)
  unfolding tail_f columns all
  sound_F hb hm =
      made (5 ∷ 6 ∷ 3 ∷ [])
      (step (fit_RJ (old _ hb) (old _ hm) refl refl)
      (step (fit_RN (first _ _) refl refl)
      (step (fit_RP (new _ 1 tt) refl refl) end)))
      (new _ 2 tt)

  ends_I : {l c : ℕ} → TableWide ws l 1 → TableWide ws c 3 → EndsWide ws (head_i n l c) (ws ++ (2 ∷ 2 ∷ 1 ∷ 1 ∷ []))
  unfolding head_i columns all
  ends_I hl hc =
      steps
      (step (fit_RE (old _ hc))
      (step (fit_RS (first _ _) refl)
      (step (fit_RP (new _ 1 tt) refl refl)
      (step (fit_RD (old _ hl) (new _ 2 tt)) end))))

  sound_U : {a b : ℕ} → TableWide ws a 3 → TableWide ws b 3 → WellMade ws (record { ops = RU a b ∷ []; result = n })
  sound_U ha hb = made (3 ∷ []) (step (fit_RU (old _ ha) (old _ hb)) end) (first _ _)

  sound_O : {a b : ℕ} (f : Function) → TableWide ws a 3 → TableWide ws b 3 → WellMade ws (tail_o n f a b)
  unfolding tail_o columns all
  sound_O f ha hb =
      made (3 ∷ 3 ∷ 6 ∷ 4 ∷ 5 ∷ 3 ∷ [])
      (step (fit_RK (old _ ha) refl)
      (step (fit_RK (old _ hb) refl)
      (step (fit_RJ (first _ _) (new _ 1 tt) refl refl)
      (step (fit_RP (new _ 2 tt) refl refl)
      (step (fit_RF (new _ 3 tt) refl refl)
      (step (fit_RP (new _ 4 tt) refl refl) end))))))
      (new _ 5 tt)

  sound_C : {l a : ℕ} → TableWide ws l 1 → TableWide ws a 3 → WellMade ws (tail_c n l a)
  unfolding tail_c columns all
  sound_C hl ha =
      made (2 ∷ 1 ∷ 1 ∷ 2 ∷ 2 ∷ 3 ∷ 3 ∷ [])
      (step (fit_RC (old _ ha) refl)
      (step (fit_RP (first _ _) refl refl)
      (step (fit_RD (old _ hl) (new _ 1 tt))
      (step (fit_RA (new _ 2 tt) refl)
      (step (fit_RU (first 2 _) (new _ 3 tt))
      (step (fit_RA (new _ 4 tt) refl)
      (step (fit_RP (new _ 5 tt) refl refl) end)))))))
      (new _ 6 tt)

  sound_D : {a : ℕ} → TableWide ws a 3 → WellMade ws (tail_d n a)
  unfolding tail_d columns all
  sound_D ha =
      made (4 ∷ 3 ∷ []) (step (fit_RV (old _ ha) refl refl) (step (fit_RP (first _ _) refl refl) end)) (new _ 1 tt)

  sound_X : {a : ℕ} (x : Axis) (y : Test) → TableWide ws a 3 → WellMade ws (tail_x n x y a)
  unfolding tail_x columns all
  sound_X x y ha =
      made (2 ∷ 2 ∷ 3 ∷ 3 ∷ [])
      (step (fit_RP (old _ ha) refl refl)
      (step (fit_RX (first _ _))
      (step (fit_RN (new _ 1 tt) refl refl)
      (step (fit_RP (new _ 2 tt) refl refl) end))))
      (new _ 3 tt)

  ends_last : {a : ℕ} → TableWide ws a 3 → EndsWide ws (tail_last n a) (ws ++ (4 ∷ 3 ∷ []))
  unfolding tail_last columns all
  ends_last ha = steps (step (fit_RN (old _ ha) refl refl) (step (fit_RP (first _ _) refl refl) end))

-- Variables

bound_inner : (v u : ℕ) (vs : List ℕ) → eqb v u ≡ false → bound v (u ∷ vs) ≡ true → bound v vs ≡ true
unfolding bound any
bound_inner v u vs p h = rw p at h

-- the variables in scope have tables of width 3

env_kept : {ws us : List ℕ} {os : List Op} {e : Tables} {vs : List ℕ} → EndsWide ws os us → EnvWide ws e vs
    → EnvWide us e vs
env_kept x h = record { wide_at = λ v b. kept x (h.wide_at v b) }

cond_wide :
    {ws : List ℕ} {t u w : ℕ} (b : Bool) → (b ≡ true → TableWide ws t w) → (b ≡ false → TableWide ws u w) →
    TableWide ws (cond b t u) w
cond_wide true f g = f refl
cond_wide false f g = g refl

env_hold :
    {ws : List ℕ} {t : ℕ} {e : Tables} {vs : List ℕ} (v : ℕ) → TableWide ws t 3 → EnvWide ws e vs
    → EnvWide ws (hold v t e) (v ∷ vs)
unfolding hold
env_hold {vs} v ht h =
    record { wide_at = λ u b. cond_wide (eqb u v) (λ p. ht) (λ p. h.wide_at u (bound_inner u v vs p b)) }

-- Lifting: each variable is joined with table m, which is i wide, and three columns are projected

record LiftedWide (ws : List ℕ) (e : Tables) (os : List Op) (f : Tables) : Type 0 where
  after : List ℕ
  ends : EndsWide ws os after
  held : (u : ℕ) → TableWide ws (e u) 3 → TableWide after (f u) 3

module _
    (m i a b c : ℕ)
    (p : leb (3 + i) 6 ≡ true)
    (q : ltb 0 i ≡ true)
    (r : columns (3 + i) (a ∷ b ∷ c ∷ []) ≡ true)
  where
    lift_one :
        (ws : List ℕ) {n t : ℕ} → n ≡ length ws → TableWide ws t 3 → TableWide ws m i →
        EndsWide ws (RJ t 0 m 0 ∷ RP n (a ∷ b ∷ c ∷ []) ∷ []) (ws ++ ((3 + i) ∷ 3 ∷ []))
    lift_one ws e ht hm =
        steps ws e
        (step ws e (fit_RJ (old ws e _ ht) (old ws e _ hm) q p) (step ws e (fit_RP (first ws e _ _) r refl) (end ws e)))

    lift :
        (us : List ℕ) (ws : List ℕ) (n : ℕ) (e : Tables) → n ≡ length ws → Every (λ u. TableWide ws (e u) 3) us
        → TableWide ws m i →
        LiftedWide ws e (lifts e m (a ∷ b ∷ c ∷ []) n us) (lifted e n us)
    unfolding lifts lifted Every hold
    lift [] ws n e en h hm = record { after = ws; ends = ends_none; held = λ u k. k }
    lift (v ∷ us) ws n e en h hm =
        let one = lift_one ws en h.0 hm in
        let rest =
        lift us (ws ++ ((3 + i) ∷ 3 ∷ [])) (n + 2) e (count one en) (every_map (λ u. kept one) us h.1) (kept one hm)
        in
        record {
          after = rest.after;
          ends = ends_then one rest.ends;
          held =
              λ u k. cond_wide (eqb u v) (λ _. kept rest.ends (new ws en _ 1 tt)) (λ _. rest.held u (kept one k));
        }

-- the variables free in a part are lifted; those that are not lifted keep their tables

env_lifted :
    {ws : List ℕ} {e f : Tables} {os : List Op} {vs : List ℕ} (x : LiftedWide ws e os f) → EnvWide ws e vs
    → EnvWide x.after f vs
env_lifted x h = record { wide_at = λ u b. x.held u (h.wide_at u b) }

free_wide :
    {ws : List ℕ} {e : Tables} {vs : List ℕ} (q : Query) → Closed q vs → EnvWide ws e vs →
    Every (λ u. TableWide ws (e u) 3) (free_in q)
unfolding free_in
free_wide {ws} {e} {vs} q c h =
    every_filter (λ u. TableWide ws (e u) 3) (λ v. free v q) (λ v f. h.wide_at v (free_bound q vs v c f).0) (below 8)

others_wide :
    {ws : List ℕ} {e : Tables} {vs : List ℕ} (v : ℕ) (q : Query) → Closed q (v ∷ vs) → EnvWide ws e vs →
    Every (λ u. TableWide ws (e u) 3) (others_in v q)
unfolding others_in
others_wide {ws} {e} {vs} v q c h =
    every_filter (λ u. TableWide ws (e u) 3) (λ u. not (eqb u v) && free u q)
    (λ u. other_true (eqb u v) (free u q) (λ n f. h.wide_at u (bound_inner u v vs n (free_bound q (v ∷ vs) u c f).0)))
    (below 8)

-- The translation

abbrev KeepsWide : Query → Type 0
KeepsWide q =
    (vs ws : List ℕ) (n l : ℕ) (e : Tables) → Closed q vs → n ≡ length ws → TableWide ws l 1 → EnvWide ws e vs →
    WellMade ws (tr q n l e)

keeps_QV : (at v : ℕ) → KeepsWide (QV at v)
unfolding tr
keeps_QV at v vs ws n l e c en hl h = record { after = ws; ends = ends_none; result = h.wide_at v c.0 }

keeps_QS : (at : ℕ) (a b : Query) → KeepsWide a → KeepsWide b → KeepsWide (QS at a b)
unfolding tr next
keeps_QS at a b ha hb vs ws n l e c en hl h =
    let x = ha vs ws n l e c.0 en hl h in
    let en1 = count x.ends en in
    let y = hb vs x.after _ l e c.1 en1 (kept x.ends hl) (env_kept x.ends h) in
    sound_then x.ends
    (sound_then y.ends (sound_S y.after (count y.ends en1) (kept y.ends x.result) y.result))

keeps_QT : (at v : ℕ) (a b : Query) → KeepsWide a → KeepsWide b → KeepsWide (QT at v a b)
unfolding tr next
keeps_QT at v a b ha hb vs ws n l e c en hl h =
    let x = ha vs ws n l e c.1 en hl h in
    sound_then x.ends
    (hb (v ∷ vs) x.after _ l _ c.2 (count x.ends en) (kept x.ends hl)
    (env_hold v x.result (env_kept x.ends h)))

keeps_QO : (at : ℕ) (f : Function) (a b : Query) → KeepsWide a → KeepsWide b → KeepsWide (QO at f a b)
unfolding tr next
keeps_QO at f a b ha hb vs ws n l e c en hl h =
    let x = ha vs ws n l e c.0 en hl h in
    let en1 = count x.ends en in
    let y = hb vs x.after _ l e c.1 en1 (kept x.ends hl) (env_kept x.ends h) in
    sound_then x.ends
    (sound_then y.ends (sound_O y.after (count y.ends en1) f (kept y.ends x.result) y.result))

keeps_QC : (at : ℕ) (a : Query) → KeepsWide a → KeepsWide (QC at a)
unfolding tr next
keeps_QC at a ha vs ws n l e c en hl h =
    let x = ha vs ws n l e c en hl h in
    sound_then x.ends (sound_C x.after (count x.ends en) (kept x.ends hl) x.result)

keeps_QD : (at : ℕ) (a : Query) → KeepsWide a → KeepsWide (QD at a)
unfolding tr next
keeps_QD at a ha vs ws n l e c en hl h =
    let x = ha vs ws n l e c en hl h in
    sound_then x.ends (sound_D x.after (count x.ends en) x.result)

keeps_QX : (at : ℕ) (x : Axis) (t : Test) (a : Query) → KeepsWide a → KeepsWide (QX at x t a)
unfolding tr next
keeps_QX at axis test a ha vs ws n l e c en hl h =
    let x = ha vs ws n l e c en hl h in
    sound_then x.ends (sound_X x.after (count x.ends en) axis test x.result)

-- the rule of `for` after the lifting: b under the new loop l, then its rows back by the map table
abbrev for_tail : Query → ℕ → ℕ → ℕ → Tables → Made
for_tail b k l map f =
    let y = tr b k l f in
    then y.ops (tail_f (next k y) y.result map)

sound_for_tail :
    (b : Query) (vs ws : List ℕ) (k l map : ℕ) (f : Tables) → KeepsWide b →
    Closed b vs → k ≡ length ws → TableWide ws l 1 → TableWide ws map 2 → EnvWide ws f vs
    → WellMade ws (for_tail b k l map f)
unfolding next
sound_for_tail b vs ws k l map f hb c ek hl hm h =
    let y = hb vs ws k l f c ek hl h in
    sound_then y.ends (sound_F y.after (count y.ends ek) y.result (kept y.ends hm))

-- .. and from the numbering of a's rows on, where a's table is r
abbrev for_body : ℕ → Query → ℕ → ℕ → Tables → Made
for_body v b m r e =
    let lift = lifts e (m + 4) (4 ∷ 1 ∷ 2 ∷ []) (m + 5) (others_in v b) in
    let f = hold v (m + 2) (lifted e (m + 5) (others_in v b)) in
    then (head_f m r) (then lift (for_tail b (m + 5 + length lift) (m + 3) (m + 4) f))

sound_for :
    (v : ℕ) (b : Query) (vs ws : List ℕ) (m r : ℕ) (e : Tables) → KeepsWide b →
    Closed b (v ∷ vs) → m ≡ length ws → TableWide ws r 3 → EnvWide ws e vs → WellMade ws (for_body v b m r e)
unfolding head_f columns all
sound_for v b vs ws m r e hb c em hr h =
    let head = ends_F ws em hr in
    let em5 = count head em in
    let env = env_kept head h in
    let map = new ws em _ 4 tt in
    let x = lift (m + 4) 2 4 1 2 refl refl refl (others_in v b) _ (m + 5) e em5 (others_wide v b c env) map in
    sound_then head
    (sound_then x.ends
    (sound_for_tail b (v ∷ vs) x.after _ (m + 3) (m + 4) _ hb c (count x.ends em5)
    (kept x.ends (new ws em _ 3 tt))
    (kept x.ends map)
    (env_hold v (kept x.ends (new ws em _ 2 tt)) (env_lifted x env))))

keeps_QF : (at v : ℕ) (a b : Query) → KeepsWide a → KeepsWide b → KeepsWide (QF at v a b)
unfolding tr next
keeps_QF at v a b ha hb vs ws n l e c en hl h =
    let x = ha vs ws n l e c.1 en hl h in
    sound_then x.ends
    (sound_for v b vs x.after _ _ e hb c.2 (count x.ends en) x.result (env_kept x.ends h))

-- a branch of `if` under loop table l, the lifted variables first; then what follows it
branch :
    (q : Query) (vs ws : List ℕ) (n l : ℕ) (e : Tables) → KeepsWide q →
    Closed q vs → n ≡ length ws → TableWide ws l 1 → EnvWide ws e vs →
    let os = lifts e l (0 ∷ 1 ∷ 2 ∷ []) n (free_in q) in
    let x = tr q (n + length os) l (lifted e n (free_in q)) in
    (y : Made) →
    ((us : List ℕ) →
    EndsWide ws (os ++ x.ops) us → n + length os + length x.ops ≡ length us → TableWide us x.result 3
    → WellMade us y) →
    WellMade ws (then os (then x.ops y))
unfolding columns all
branch q vs ws n l e hq c en hl h y go =
    let os = lift l 1 0 1 2 refl refl refl (free_in q) ws n e en (free_wide q c h) hl in
    let x = hq vs os.after _ l _ c (count os.ends en) (kept os.ends hl) (env_lifted os h) in
    sound_then os.ends
    (sound_then x.ends
    (go x.after (ends_then os.ends x.ends) (count x.ends (count os.ends en)) x.result))

-- the rule of `if` from the else-branch on, where the then-branch's table is r; and from the truths of c's table r on
abbrev else_body : Query → ℕ → ℕ → ℕ → Tables → Made
else_body b j l r e =
    let lift = lifts e l (0 ∷ 1 ∷ 2 ∷ []) j (free_in b) in
    let k = j + length lift in
    let y = tr b k l (lifted e j (free_in b)) in
    then lift (then y.ops (record { ops = RU r y.result ∷ []; result = next k y }))

sound_else :
    (b : Query) (vs ws : List ℕ) (j l r : ℕ) (e : Tables) → KeepsWide b →
    Closed b vs → j ≡ length ws → TableWide ws l 1 → TableWide ws r 3 → EnvWide ws e vs
    → WellMade ws (else_body b j l r e)
unfolding next
sound_else b vs ws j l r e hb c ej hl hr h =
    branch b vs ws j l e hb c ej hl h _ (λ us done eu ry. sound_U us eu (kept done hr) ry)

abbrev choice_body : Query → Query → ℕ → ℕ → ℕ → Tables → Made
choice_body a b m l r e =
    let lift = lifts e (m + 2) (0 ∷ 1 ∷ 2 ∷ []) (m + 4) (free_in a) in
    let i = m + 4 + length lift in
    let x = tr a i (m + 2) (lifted e (m + 4) (free_in a)) in
    then (head_i m l r) (then lift (then x.ops (else_body b (next i x) (m + 3) x.result e)))

sound_choice :
    (a b : Query) (vs ws : List ℕ) (m l r : ℕ) (e : Tables) → KeepsWide a → KeepsWide b → Closed a vs → Closed b vs →
    m ≡ length ws → TableWide ws l 1 → TableWide ws r 3 → EnvWide ws e vs → WellMade ws (choice_body a b m l r e)
unfolding next head_i
sound_choice a b vs ws m l r e ha hb ca cb em hl hr h =
    let head = ends_I ws em hl hr in
    let env = env_kept head h in
    sound_then head
    (branch a vs _ (m + 4) (m + 2) e ha ca (count head em) (new ws em _ 2 tt) env _
    (λ us done eu rx. sound_else b vs us _ (m + 3) _ e hb cb eu (kept done (new ws em _ 3 tt)) rx (env_kept done env)))

keeps_QI : (at : ℕ) (c a b : Query) → KeepsWide c → KeepsWide a → KeepsWide b → KeepsWide (QI at c a b)
unfolding tr next
keeps_QI at c a b hc ha hb vs ws n l e p en hl h =
    let z = hc vs ws n l e p.0 en hl h in
    sound_then z.ends
    (sound_choice a b vs z.after _ l _ e ha hb p.1 p.2 (count z.ends en) (kept z.ends hl) z.result
    (env_kept z.ends h))

keeps_QL : (at : ℕ) (z : ℤ) → KeepsWide (QL at z)
unfolding tr
keeps_QL at z vs ws n l e c en hl h = sound_L ws en z hl

keeps_QE : (at : ℕ) → KeepsWide (QE at)
unfolding tr
keeps_QE at vs ws n l e c en hl h = sound_E ws en hl

keeps_QR : (at k : ℕ) → KeepsWide (QR at k)
unfolding tr
keeps_QR at k vs ws n l e c en hl h = sound_R ws en k hl

-- after tables of widths ws, under a loop table of width 1 and variables of width 3, each rule is sound
pub tr_sound :
    (q : Query) (vs ws : List ℕ) (n l : ℕ) (e : Tables) →
    Closed q vs → n ≡ length ws → TableWide ws l 1 → EnvWide ws e vs → WellMade ws (tr q n l e)
tr_sound q =
    elim q as (λ q. KeepsWide q) [
      | QL at z ↦ keeps_QL at z
      | QE at ↦ keeps_QE at
      | QR at k ↦ keeps_QR at k
      | QV at v ↦ keeps_QV at v
      | QS at (a → ha) (b → hb) ↦ keeps_QS at a b ha hb
      | QT at v (a → ha) (b → hb) ↦ keeps_QT at v a b ha hb
      | QF at v (a → ha) (b → hb) ↦ keeps_QF at v a b ha hb
      | QI at (c → hc) (a → ha) (b → hb) ↦ keeps_QI at c a b hc ha hb
      | QO at f (a → ha) (b → hb) ↦ keeps_QO at f a b ha hb
      | QC at (a → ha) ↦ keeps_QC at a ha
      | QD at (a → ha) ↦ keeps_QD at a ha
      | QX at x t (a → ha) ↦ keeps_QX at x t a ha
    ]

-- under the first loop table, with no variables
first_loop : EndsWide [] (RT ∷ []) (1 ∷ [])
unfolding widths width_of attempt
first_loop = record { is = refl }

no_variables : (ws : List ℕ) (e : Tables) → EnvWide ws e []
unfolding bound any
no_variables ws e = record { wide_at = λ v b. absurd (false≢true b) }

-- the widths of a whole plan, the last of them 3
pub plan_widths : (q : Query) → Closed q [] → (ws : List ℕ) × (widths [] (plan q) ≡ gives (ws ++ (3 ∷ [])))
unfolding plan next
plan_widths q c =
    let loop : TableWide (1 ∷ []) 0 1 = record { there = lit< tt; is = refl } in
    let x = tr_sound q [] (1 ∷ []) 1 0 (λ v. 0) c refl loop (no_variables (1 ∷ []) (λ v. 0)) in
    let last = ends_last x.after (count x.ends refl) x.result in
    let all = ends_then first_loop (ends_then x.ends last) in
    (x.after ++ (4 ∷ []), all.is ∙ ap gives (sym (append_assoc x.after (4 ∷ []) (3 ∷ []))))
