-- Laws of lifting: variables are lifted one after another, by rising number.
--     lifts_same, lifted_same      only the tables of the variables concerned matter
--     lifts_append                 the operators that lift variables in two parts
--     lifted_absent, lifted_last   the table of a variable that is not lifted; of the last one that is
--     flagged_below                the flagged variables below n are below n
--     lifts_none, lifts_one        no variable; one
--     lifts_skip, lifts_more       one variable more: it is not lifted, or it is
--     lifts_room                   room for one variable more
--     hold_holds                   the row of eight with another table
--     flagged_free, flagged_others the flags of free variables give the variables that are to be lifted
--     lifts-rule                   what `lift` leaves, over the tables that the row of eight holds
use Prim.Native.Nat.{ℕ, suc, ◌+◌, ◌<◌}
use mathlib.Core.Path.{◌≡◌, refl, sym, ap, ap₂, ◌∙◌, subst}
use mathlib.Core.Bool.{Bool, true, false, not, cond, ◌&&◌}
use mathlib.Core.List.{List, [], ◌∷◌, ◌++◌, append-nil}
use native.Mathlib.Omega.{arith}
use native.Mathlib.Numerals.{add-one}
use native.Mathlib.Decide.{ℕ_discrete}
use borrow.Author.Tests.{eq-eqb, ne_eqb}
use lib.Dec.{eqb}
use lib.ListN.{length, get_or, set}
use lib.Seq.{get_or-set_same, get_or-set_other}
use Rattle.laws.specs.Lists.{filter, below}
use Rattle.laws.specs.Lists.{All}
use Rattle.laws.proofs.Lists.{all_map, all_below, all_kept}
use Rattle.laws.proofs.Filters.{filter_append, filter_same}
use Rattle.laws.proofs.Lists.{length_below}
use Rattle.meaning.specs.Plan.{Op, RJ, RP}
use Rattle.meaning.specs.Query.{Query, free}
use Rattle.meaning.specs.Translation.{Tables, hold, lifts, lifted, free_in, others_in}
use Rattle.theorems.proofs.PlanBound.{length_filter, length_lifts}
use Rattle.adding.specs.declared.Pen.{Pen}
use Rattle.lifting.specs.declared.Lifted.{Lifted}
use Rattle.adding.specs.Ruled.{PenRoom, Wrote}
use Rattle.lifting.specs.Lifts.{tables_of, HoldsTables, flagged, Lifts}
use Rattle.adding.proofs.Adding.{wrote_none, wrote_then, wrote_room}

module _ (e f : Tables) where
  pub lifts_same :
      (m : ℕ) (cs : List ℕ) (n : ℕ) (vs : List ℕ) → All (λ v. e v ≡ f v) vs → lifts e m cs n vs ≡ lifts f m cs n vs
  unfolding lifts
  lifts_same m cs n [] h = refl
  lifts_same m cs n (v ∷ vs) h = rw (h.0, lifts_same m cs (n + 2) vs h.1)

  pub lifted_same : (u n : ℕ) (vs : List ℕ) → e u ≡ f u → lifted e n vs u ≡ lifted f n vs u
  unfolding lifted hold
  lifted_same u n [] h = h
  lifted_same u n (v ∷ vs) h = ap (cond (eqb u v) (n + 1)) (lifted_same u (n + 2) vs h)

module _ (e : Tables) where
  pub lifts_append :
      (m : ℕ) (cs : List ℕ) (n : ℕ) (vs ws : List ℕ) →
      lifts e m cs n (vs ++ ws) ≡ lifts e m cs n vs ++ lifts e m cs (n + length (lifts e m cs n vs)) ws
  unfolding lifts
  lifts_append m cs n [] ws =
      let z : n ≡ n + 0 = omega arith in
      ap (λ (k : ℕ). lifts e m cs k ws) z
  lifts_append m cs n (v ∷ vs) ws =
      let rest = lifts e m cs (n + 2) vs in
      let z : n + 2 + length rest ≡ n + suc (suc (length rest)) = omega arith in
      ap (λ (os : List Op). RJ (e v) 0 m 0 ∷ RP n cs ∷ os)
      (lifts_append m cs (n + 2) vs ws ∙ ap (λ (k : ℕ). rest ++ lifts e m cs k ws) z)

  pub lifted_absent : (u n : ℕ) (vs : List ℕ) → All (λ v. v < u) vs → lifted e n vs u ≡ e u
  unfolding lifted hold
  lifted_absent u n [] h = refl
  lifted_absent u n (v ∷ vs) h = rw (ne_eqb u v (λ p. omega (arith, h.0, p))) (lifted_absent u (n + 2) vs h.1)

  -- the table of a variable, where v is lifted last
  pub lifted_last :
      (m : ℕ) (cs : List ℕ) (u v n : ℕ) (vs : List ℕ) → All (λ w. w < v) vs →
      lifted e n (vs ++ (v ∷ [])) u ≡ cond (eqb u v) (n + length (lifts e m cs n vs) + 1) (lifted e n vs u)
  unfolding lifted lifts hold
  lifted_last m cs u v n [] h =
      let z : n + 1 ≡ n + 0 + 1 = omega arith in
      ap (λ (k : ℕ). cond (eqb u v) k (e u)) z
  lifted_last m cs u v n (w ∷ vs) h =
      let rest = lifts e m cs (n + 2) vs in
      let z : n + 2 + length rest + 1 ≡ n + suc (suc (length rest)) + 1 = omega arith in
      ap (cond (eqb u w) (n + 1)) (lifted_last m cs u v (n + 2) vs h.1)
      ∙ ap (λ (k : ℕ). cond (eqb u w) (n + 1) (cond (eqb u v) k (lifted e (n + 2) vs u))) z
      ∙ turn (n + 1) (n + suc (suc (length rest)) + 1) (lifted e (n + 2) vs u) (ℕ_discrete u v)
    where
      turn :
          (a b c : ℕ) → Dec (u ≡ v) → cond (eqb u w) a (cond (eqb u v) b c) ≡ cond (eqb u v) b (cond (eqb u w) a c)
      turn a b c (yes p) = rw (eq-eqb u v p, ne_eqb u w (λ q. omega (arith, h.0, p, q)))
      turn a b c (no p) = rw (ne_eqb u v p)

pub flagged_below : (fs : List Bool) (n : ℕ) → All (λ v. v < n) (flagged fs n)
unfolding flagged
flagged_below fs n = all_kept (λ v. get_or fs v false) (λ v. v < n) (below n) (all_below n)

pub flagged_more : (fs : List Bool) (v : ℕ) → flagged fs (v + 1) ≡ flagged fs v ++ cond (get_or fs v false) (v ∷ []) []
unfolding flagged below filter
flagged_more fs v = rw add-one (filter_append (λ u. get_or fs u false) (below v) (v ∷ []))

pub lifts_none :
    (ts : List ℕ) (m : ℕ) (cs x : List ℕ) (p : Pen) → Lifts ts m cs [] x p x (record { tables = ts; pen = p })
unfolding lifts lifted
lifts_none ts m cs x p = record { wrote = wrote_none x p; holds = λ v h. refl }

-- the row of eight with one more table
set_holds :
    (ts : List ℕ) (v t u : ℕ) → length ts ≡ 8 → u < 8 →
    get_or (set ts v t) u 0 ≡ cond (eqb u v) t (get_or ts u 0)
set_holds ts v t u l h = go (ℕ_discrete u v)
  where
    go : Dec (u ≡ v) → get_or (set ts v t) u 0 ≡ cond (eqb u v) t (get_or ts u 0)
    go (yes p) = rw (eq-eqb u v p, p) (get_or-set_same ts v t 0 (omega arith))
    go (no p) = rw (ne_eqb u v p) (get_or-set_other ts v u t 0 p)

-- a row of eight with another table for a variable holds the tables that `hold` gives
pub hold_holds :
    (ts : List ℕ) (e : Tables) (v t : ℕ) → length ts ≡ 8 → HoldsTables ts e → HoldsTables (set ts v t) (hold v t e)
unfolding hold
hold_holds ts e v t l h u k = set_holds ts v t u l k ∙ ap (cond (eqb u v) t) (h u k)

pub lifts_one :
    (ts : List ℕ) (m : ℕ) (cs : List ℕ) (v : ℕ) (x y : List ℕ) (p q : Pen) → length ts ≡ 8 →
    Wrote (RJ (get_or ts v 0) 0 m 0 ∷ RP p.operators cs ∷ []) x p y q →
    Lifts ts m cs (v ∷ []) x p y (record { tables = set ts v (p.operators + 1); pen = q })
unfolding lifts lifted hold
lifts_one ts m cs v x y p q l w =
    record { wrote = w; holds = λ u h. set_holds ts v (p.operators + 1) u l h }

module _
    (ts : List ℕ) (m : ℕ) (cs : List ℕ) (fs : List Bool) (v : ℕ) (x y : List ℕ) (p : Pen) (a : Lifted)
    (done : Lifts ts m cs (flagged fs v) x p y a) where
  -- v is not lifted
  pub lifts_skip : get_or fs v false ≡ false → Lifts ts m cs (flagged fs (v + 1)) x p y a
  lifts_skip b = rw (flagged_more, b, append-nil) done

  module _ (l : v < 8) (z : List ℕ) (r : Lifted) (one : Lifts a.tables m cs (v ∷ []) y a.pen z r) where
    -- v itself is not lifted before
    own : get_or a.tables v 0 ≡ get_or ts v 0
    own = done.holds v l ∙ lifted_absent (tables_of ts) v p.operators (flagged fs v) (flagged_below fs v)

    more : Lifts ts m cs (flagged fs v ++ (v ∷ [])) x p z r
    unfolding lifts lifted hold
    more =
        let n = p.operators in
        let before = lifts (tables_of ts) m cs n (flagged fs v) in
        let k : a.pen.operators ≡ n + length before = done.wrote.count in
        let joins : before ++ lifts (tables_of a.tables) m cs a.pen.operators (v ∷ [])
        ≡ lifts (tables_of ts) m cs n (flagged fs v ++ (v ∷ [])) =
        rw (own, k) (sym (lifts_append (tables_of ts) m cs n (flagged fs v) (v ∷ []))) in
        record {
          wrote = subst (λ (os : List Op). Wrote os x p z r.pen) joins (wrote_then done.wrote one.wrote);
          holds = λ u h.
              one.holds u h
              ∙ ap₂ (λ (s t : ℕ). cond (eqb u v) (s + 1) t) k (done.holds u h)
              ∙ sym (lifted_last (tables_of ts) m cs u v n (flagged fs v) (flagged_below fs v));
        }

    pub lifts_more : get_or fs v false ≡ true → Lifts ts m cs (flagged fs (v + 1)) x p z r
    lifts_more b = rw (flagged_more, b) more

pub lifts_room :
    (ts : List ℕ) (m : ℕ) (cs : List ℕ) (fs : List Bool) (v : ℕ) (x y : List ℕ) (p : Pen) (a : Lifted) →
    Lifts ts m cs (flagged fs v) x p y a → v < 8 → PenRoom p 16 → PenRoom a.pen 2
unfolding flagged
lifts_room ts m cs fs v x y p a g l h =
    wrote_room g.wrote 2 16 h
    (omega (
      arith,
      length_lifts (tables_of ts) m cs p.operators (filter (λ u. get_or fs u false) (below v)),
      length_filter (λ u. get_or fs u false) (below v),
      length_below v,
    ))

-- The variables to be lifted

pub flagged_free :
    (fs : List Bool) (q : Query) → ((v : ℕ) → v < 8 → get_or fs v false ≡ free v q) → flagged fs 8 ≡ free_in q
unfolding flagged free_in
flagged_free fs q h =
    filter_same (λ v. get_or fs v false) (λ v. free v q) (below 8) (all_map (below 8) h (all_below 8))

clear_flag : (fs : List Bool) (u v : ℕ) → length fs ≡ 8 → v < 8 → get_or (set fs u false) v false ≡ not
    (eqb v u) && get_or fs v false
clear_flag fs u v l k = go (ℕ_discrete v u)
  where
    go : Dec (v ≡ u) → get_or (set fs u false) v false ≡ not (eqb v u) && get_or fs v false
    go (yes h) = rw (eq-eqb v u h, h) (get_or-set_same fs u false false (omega arith))
    go (no h) = rw (ne_eqb v u h) (get_or-set_other fs u v false false h)

pub flagged_others :
    (fs : List Bool) (u : ℕ) (q : Query) → length fs ≡ 8 → ((v : ℕ) → v < 8 → get_or fs v false ≡ free v q) →
    flagged (set fs u false) 8 ≡ others_in u q
unfolding flagged others_in
flagged_others fs u q l h =
    filter_same (λ v. get_or (set fs u false) v false) (λ v. not (eqb v u) && free v q) (below 8)
    (all_map (below 8) (λ v k. clear_flag fs u v l k ∙ ap (λ (b : Bool). not (eqb v u) && b) (h v k)) (all_below 8))

module _
    (ts : List ℕ) (m : ℕ) (cs : List ℕ) (fs : List Bool) (x y : List ℕ) (p : Pen) (r : Lifted)
    (g : Lifts ts m cs (flagged fs 8) x p y r) (e : Tables) (h : HoldsTables ts e) (vs : List ℕ) (s : flagged fs 8
    ≡ vs) where
  pub lifts_wrote : Wrote (lifts e m cs p.operators vs) x p y r.pen
  lifts_wrote =
      subst (λ (us : List ℕ). Wrote (lifts e m cs p.operators us) x p y r.pen) s
      (rw (lifts_same (tables_of ts) e m cs p.operators (flagged fs 8)
      (all_map (flagged fs 8) h (flagged_below fs 8)))
      at g.wrote)

  pub lifts_holds : HoldsTables r.tables (lifted e p.operators vs)
  lifts_holds u k =
      g.holds u k
      ∙ lifted_same (tables_of ts) e u p.operators (flagged fs 8) (h u k)
      ∙ ap (λ (us : List ℕ). lifted e p.operators us u) s
