-- What a caller of `check`, `read` and `made_width` learns: the plan that was accepted, walked over again.
--     check_reads, check_refuses     the plan check answered a number of operators, or a refusal
--     plan_few, plan_last            an accepted plan has at most 512 operators, the last of width 3
--     ahead_start                    nothing done, all ahead
--     ahead_end                      at the end of the bytes nothing is ahead
--     ahead_unread                   before it `read` finds an operator
--     ahead_turn                     and that operator is the next, sound after those done
--     ahead_width                    every table so far is 1 to 6 wide
--     no_table, fitting, turn_fitting     its tables, widths and fields
--     keys_one, keys_two             RN's keys as they stand in the bytes
use Rattle.std.specs.Prelude.{Option, Some, None, Result, Ok, Err}
use Prim.Native.Nat.{ℕ, zero, suc, ◌+◌, ◌≤◌, ◌<◌}
use mathlib.Core.Path.{◌≡◌, refl, sym, ◌∙◌, ap, subst}
use mathlib.Core.Bool.{Bool, true, false}
use mathlib.Core.List.{List, [], ◌∷◌, ◌++◌, append-nil, append_assoc, append_cancel_left}
use native.Mathlib.Omega.{arith}
use native.Mathlib.Numerals.{add-one}
use borrow.Author.Tests.{ltb-true, leb-true, leb-false, eqb-true}
use lib.Dec.{eqb, ltb, leb}
use lib.ListN.{length, get_or}
use lib.Seq.{drop-cons}
use Rattle.cells.specs.Bytes.{byte_at, Bytes}
use Rattle.codes.specs.Refusals.{number_of}
use Rattle.codes.specs.declared.refusals.Refusal.{Refusal}
use Rattle.laws.specs.Attempt.{Attempt, fails, gives, Reading, refuses, reads, reading, refusing}
use Rattle.laws.specs.Attempt.{unless}
use Rattle.meaning.specs.Plan.{Placed, columns_at, table_width, width_of, operator_at, placed_at, last_of, ended}
use Rattle.meaning.specs.Plan.{plan_from, plan_read}
use Rattle.laws.proofs.Outcomes.{reads_same, refuses_reads, gives_same}
use Rattle.theorems.specs.PlanFields.{Own, WidthFits}
use Rattle.theorems.specs.PlanWidths.{Every}
use Rattle.theorems.proofs.PlanWidths.{attempt_gives, provided_gives}
use Rattle.laws.proofs.Booleans.{both_true}
use Rattle.plan_records.specs.declared.Operator.{Operator}
use Rattle.plan_records.specs.declared.Decoded.{Decoded}
use Rattle.plan_records.specs.Decoded.{operator_of, ColumnsStand, Means}
use Rattle.plan_widths.specs.Widths.{tables_of, suitable, made_width}
use Rattle.plans.specs.Walk.{checked, plan_count}
use Rattle.theorems.specs.PlanRead.{widths_of}
use Rattle.plans.specs.Accepted.{Suited, Fitting, Ahead, Turn, placed}
use Rattle.plan_records.proofs.Columns.{columns_length}
use Rattle.plan_records.proofs.Fields.{operator_ends}
use Rattle.plan_widths.proofs.Ordered.{width_by, width_by_lem}
use Rattle.plans.proofs.Walking.{walk_start, walk_end, walk_excess, walk_bad, walk_on, unplaced, misplaced}
use Rattle.plans.proofs.Walking.{widths_more, widths_length}
use Rattle.plans.proofs.Ending.{unread, found, found_stands, last_each}

-- The plan check

module _ (bs : List ℕ) (c : Result ℕ Refusal) (e : checked c ≡ plan_count bs) where
  pub check_reads : (n : ℕ) → c ≡ Ok n → (ps : List Placed) × (plan_read bs ≡ reads ps) × (length ps ≡ n)
  unfolding checked plan_count reading
  check_reads n h = go (plan_read bs) refl (sym (ap checked h) ∙ e)
    where
      go :
          (a : Reading (List Placed)) → plan_read bs ≡ a → reads n ≡ reading a (λ ps. reads (length ps)) →
          (ps : List Placed) × (plan_read bs ≡ reads ps) × (length ps ≡ n)
      go (refuses k p) q s = absurd (refuses_reads k p n (sym s))
      go (reads ps) q s = (ps, q, sym (reads_same s))

  pub check_refuses : (r : Refusal) → c ≡ Err r → plan_read bs ≡ refuses (number_of r.reason) r.place
  unfolding checked plan_count reading
  check_refuses r h = go (plan_read bs) refl (sym (ap checked h) ∙ e)
    where
      go :
          (a : Reading (List Placed)) → plan_read bs ≡ a →
          refuses (number_of r.reason) r.place ≡ reading a (λ ps. reads (length ps)) →
          plan_read bs ≡ refuses (number_of r.reason) r.place
      go (refuses k q) z s = cc
      go (reads ps) z s = absurd (refuses_reads (number_of r.reason) r.place (length ps) s)

-- What is read from an offset on: those done, then others; at most so many; the last of width 3

record WholePlan (done : List Placed) (left : ℕ) (ps : List Placed) : Type 0 where
  others : List Placed
  front : ps ≡ done ++ others
  few : length others ≤ left
  ends : ended ps ≡ reads ps

ended_same : (done ps : List Placed) → ended done ≡ reads ps → done ≡ ps
unfolding ended unless
ended_same [] ps e = absurd (refuses_reads 5 0 ps e)
ended_same (p ∷ qs) ps e = go (eqb (last_of p qs).width 3) e
  where
    go : (t : Bool) → unless t 5 (last_of p qs).at (reads (p ∷ qs)) ≡ reads ps → p ∷ qs ≡ ps
    go true e = reads_same e
    go false e = absurd (refuses_reads 5 _ ps e)

ended_whole : (done : List Placed) (left : ℕ) (ps : List Placed) → ended done ≡ reads ps → WholePlan done left ps
ended_whole done left ps e =
    let s = ended_same done ps e in
    record {
      others = [];
      front = sym s ∙ sym (append-nil done);
      few = omega arith;
      ends = subst (λ (qs : List Placed). ended qs ≡ reads ps) s e;
    }

whole_on :
    (done : List Placed) (p : Placed) (left : ℕ) (ps : List Placed) → WholePlan (done ++ (p ∷ [])) left ps →
    WholePlan done (suc left) ps
whole_on done p left ps k =
    record {
      others = p ∷ k.others;
      front = k.front ∙ append_assoc done (p ∷ []) k.others;
      few = omega (arith, k.few);
      ends = k.ends;
    }

from_whole :
    (left : ℕ) (bs : List ℕ) (done : List Placed) (at : ℕ) (ps : List Placed) →
    plan_from left bs done at ≡ reads ps → WholePlan done left ps
unfolding plan_from reading refusing
from_whole zero bs done at ps e = go (leb (length bs) at) e
  where
    go : (t : Bool) → elim t [ true ↦ ended done | false ↦ refuses 5 at ] ≡ reads ps → WholePlan done zero ps
    go true e = ended_whole done zero ps e
    go false e = absurd (refuses_reads 5 at ps e)
from_whole (suc left) bs done at ps e =
    go (from_whole left bs) (placed_at bs (widths_of done) at) (leb (length bs) at) e
  where
    on :
        ((done : List Placed) (at : ℕ) (ps : List Placed) → plan_from left bs done at ≡ reads ps
        → WholePlan done left ps) →
        (a : Attempt (Placed × ℕ)) →
        reading (refusing 5 at a) (λ o. plan_from left bs (done ++ (o.0 ∷ [])) o.1) ≡ reads ps →
        WholePlan done (suc left) ps
    on ih fails e = absurd (refuses_reads 5 at ps e)
    on ih (gives (p, next)) e = whole_on done p left ps (ih (done ++ (p ∷ [])) next ps e)

    go :
        ((done : List Placed) (at : ℕ) (ps : List Placed) → plan_from left bs done at ≡ reads ps
        → WholePlan done left ps) →
        (a : Attempt (Placed × ℕ)) (t : Bool) →
        elim t [
          | true ↦ ended done
          | false ↦ reading (refusing 5 at a) (λ o. plan_from left bs (done ++ (o.0 ∷ [])) o.1)
        ] ≡ reads ps →
        WholePlan done (suc left) ps
    go ih a true e = ended_whole done (suc left) ps e
    go ih a false e = on ih a e

module _ (bs : List ℕ) (ps : List Placed) (e : plan_read bs ≡ reads ps) where
  all_read : WholePlan [] 512 ps
  unfolding plan_read
  all_read = from_whole 512 bs [] 0 ps e

  pub plan_few : length ps ≤ 512
  plan_few = omega (arith, all_read.few, ap length all_read.front)

  pub plan_last : (p : Placed) × (qs : List Placed) × (ps ≡ p ∷ qs) × ((last_of p qs).width ≡ 3)
  unfolding ended unless
  plan_last = go ps all_read.ends
    where
      three :
          (p : Placed) (qs : List Placed) (t : Bool) → eqb (last_of p qs).width 3 ≡ t →
          unless t 5 (last_of p qs).at (reads (p ∷ qs)) ≡ reads (p ∷ qs) → (last_of p qs).width ≡ 3
      three p qs true h e = eqb-true (last_of p qs).width 3 h
      three p qs false h e = absurd (refuses_reads 5 _ (p ∷ qs) e)

      go :
          (rs : List Placed) → ended rs ≡ reads rs →
          (p : Placed) × (qs : List Placed) × (rs ≡ p ∷ qs) × ((last_of p qs).width ≡ 3)
      go [] e = absurd (refuses_reads 5 0 [] e)
      go (p ∷ qs) e = (p, qs, refl, three p qs (eqb (last_of p qs).width 3) refl e)

  pub ahead_start : Ahead bs [] ps 0
  ahead_start = record { walk = walk_start bs; whole = e }

-- The walk

every_at : (ws : List ℕ) (t : ℕ) → Every WidthFits ws → t < length ws → WidthFits (get_or ws t 0)
unfolding Every
every_at [] t e h = absurd (omega arith)
every_at (w ∷ ws) zero e h = e.0
every_at (w ∷ ws) (suc t) e h = every_at ws t e.1 (omega arith)

module _ {bs : List ℕ} {done rest : List Placed} {at : ℕ} (k : Ahead bs done rest at) where
  pub ahead_end : length bs ≤ at → rest ≡ []
  ahead_end h =
      let s = ended_same done (done ++ rest) (sym (walk_end bs done at k.walk h) ∙ k.whole) in
      append_cancel_left done rest [] (sym s ∙ sym (append-nil done))

  -- every table so far is 1 to 6 wide
  pub ahead_width : (t : ℕ) → t < length done → WidthFits (get_or (widths_of done) t 0)
  ahead_width t h = every_at (widths_of done) t k.walk.each (omega (arith, widths_length done))

  module _ (h : at < length bs) where
    ahead_few : length done < 512
    ahead_few = go (leb 512 (length done)) refl
      where
        go : (t : Bool) → leb 512 (length done) ≡ t → length done < 512
        go true q =
            absurd
            (refuses_reads 5 at (done ++ rest)
            (sym (walk_excess bs done at k.walk h (leb-true 512 (length done) q)) ∙ k.whole))
        go false q = leb-false 512 (length done) q

    module _ {r : Option Decoded} (m : Means bs r (operator_at bs at)) where
      pub ahead_unread : r ≡ None → ⊥
      ahead_unread q =
          refuses_reads 5 at (done ++ rest)
          (sym (walk_bad bs done at k.walk h ahead_few (unplaced bs (widths_of done) at (unread bs at r m q)))
          ∙ k.whole)

      module _ (b : Bytes bs) (f : Decoded) (q : r ≡ Some f) where
        reads_op : operator_at bs at ≡ gives (operator_of bs f.operator, f.next)
        reads_op = found bs at r m f q

        turn_of : (w : ℕ) → width_of (widths_of done) (operator_of bs f.operator) ≡ gives w → Turn bs done rest at f
        turn_of w e =
            let p = placed bs at f.operator w in
            let on = walk_on bs done at k.walk h ahead_few b (operator_of bs f.operator) f.next w reads_op e in
            let z = from_whole _ bs (done ++ (p ∷ [])) f.next (done ++ rest) (on.rest ∙ k.whole) in
            let s = z.front ∙ append_assoc done (p ∷ []) z.others in
            let ends = operator_ends bs b at (operator_of bs f.operator, f.next) reads_op in
            record {
              width = w;
              after = z.others;
              rest_is = append_cancel_left done rest (p ∷ z.others) s;
              few = ahead_few;
              stands = found_stands bs at r m f q;
              own = ends.own;
              fits = e;
              wide = last_each (widths_of done) w (rw (widths_more done p) at on.each);
              further = ends.after;
              within = ends.within;
              on = record { walk = on; whole = k.whole ∙ ap reads z.front };
            }

        pub ahead_turn : Turn bs done rest at f
        ahead_turn = go (width_of (widths_of done) (operator_of bs f.operator)) refl
          where
            go :
                (a : Attempt ℕ) → width_of (widths_of done) (operator_of bs f.operator) ≡ a → Turn bs done rest at f
            go fails e =
                absurd
                (refuses_reads 5 at (done ++ rest)
                (sym
                (walk_bad bs done at k.walk h ahead_few
                (misplaced bs (widths_of done) at f.next (operator_of bs f.operator) reads_op e))
                ∙ k.whole))
            go (gives w) e = turn_of w e

-- An operator's tables, widths and fields

table_is : (ws : List ℕ) (t w : ℕ) → table_width ws t ≡ gives w → (t < length ws) × (get_or ws t 0 ≡ w)
unfolding table_width
table_is ws t w e =
    let (p, q) = provided_gives (ltb t (length ws)) (gives (get_or ws t 0)) w e in
    (ltb-true t (length ws) p, gives_same q)

pub no_table :
    (bs ws : List ℕ) (o : Operator) (x : ℕ) → ColumnsStand bs o → width_of ws (operator_of bs o) ≡ gives x →
    tables_of o ≡ None → x ≡ 1
unfolding width_by
no_table bs ws o x s e q = sym (gives_same (sym (ap (width_by bs ws o) q) ∙ sym (width_by_lem bs ws o s) ∙ e))

suited_all :
    (bs : List ℕ) (o : Operator) (w v : ℕ) → ColumnsStand bs o → Own (operator_of bs o) →
    suitable (operator_of bs o) w v ≡ true → Suited bs o w v
unfolding Suited suitable operator_of Own ColumnsStand
suited_all bs Operator.One w v s k e = tt
suited_all bs (Operator.Attach t z) w v s k e = (leb-true (w + 1) 6 e, k)
suited_all bs (Operator.Project t n from) w v s k e =
    let (p, q) = both_true _ _ e in
    let l = columns_length bs from n s in
    (p, s, omega arith, omega (arith, leb-true (length (columns_at bs from n)) 6 q))
suited_all bs (Operator.Union t u) w v s k e = eqb-true w v e
suited_all bs (Operator.Minus t u) w v s k e = eqb-true w v e
suited_all bs (Operator.Select t c) w v s k e = ltb-true c w e
suited_all bs (Operator.Join t c u d) w v s k e =
    let (p, q) = both_true _ _ e in
    let (i, j) = both_true _ _ p in
    (ltb-true c w i, ltb-true d v j, leb-true (w + v) 6 q)
suited_all bs (Operator.Number t p n from) w v s k e =
    let (i, j) = both_true _ _ e in
    let l = columns_length bs from n s in
    (i, s, omega arith, omega arith, leb-true (w + 1) 6 j)
suited_all bs (Operator.Apply t f c d) w v s k e =
    let (p, q) = both_true _ _ e in
    let (i, j) = both_true _ _ p in
    (ltb-true c w i, ltb-true d w j, leb-true (w + 1) 6 q)
suited_all bs (Operator.Value t c) w v s k e =
    let (p, q) = both_true _ _ e in
    (ltb-true c w p, leb-true (w + 1) 6 q)
suited_all bs (Operator.Counts t c) w v s k e = ltb-true c w e
suited_all bs (Operator.Truths t) w v s k e = eqb-true w 3 e
suited_all bs (Operator.Once t c) w v s k e = ltb-true c w e
suited_all bs (Operator.Step t x y) w v s k e = (eqb-true w 2 e, k)
suited_all bs (Operator.Root t i) w v s k e = (leb-true (w + 1) 6 e, k.0, k.1)

pub fitting :
    (bs ws : List ℕ) (o : Operator) (x : ℕ) → ColumnsStand bs o → Own (operator_of bs o) →
    width_of ws (operator_of bs o) ≡ gives x → (t u : ℕ) → tables_of o ≡ Some (t, u) → Fitting bs ws o t u x
unfolding width_by
fitting bs ws o x s k e t u q =
    let g : width_by bs ws o (Some (t, u)) ≡ gives x =
    sym (ap (width_by bs ws o) q) ∙ sym (width_by_lem bs ws o s) ∙ e in
    let (w, i, j) = attempt_gives (table_width ws t) _ x g in
    let (v, l, m) = attempt_gives (table_width ws u) _ x j in
    let (a, b) = provided_gives (suitable (operator_of bs o) w v) (gives (made_width o w v)) x m in
    let (c, d) = table_is ws t w i in
    let (f, h) = table_is ws u v l in
    record {
      first = c;
      second = f;
      suited = rw (d, h) (suited_all bs o w v s k a);
      made = rw (d, h) (sym (gives_same b));
    }

pub turn_fitting :
    {bs : List ℕ} {done rest : List Placed} {at : ℕ} {f : Decoded} (k : Turn bs done rest at f) (t u : ℕ) →
    tables_of f.operator ≡ Some (t, u) → Fitting bs (widths_of done) f.operator t u k.width
turn_fitting {bs} {done} {rest} {at} {f} k =
    fitting bs (widths_of done) f.operator k.width k.stands k.own k.fits

-- RN's keys

module _ (bs : List ℕ) (from : ℕ) where
  pub keys_one : from + 1 ≤ length bs → columns_at bs from 1 ≡ byte_at bs from ∷ []
  unfolding columns_at
  keys_one h =
      let l : from < length bs = omega arith in
      rw (drop-cons bs from 0 l)

  pub keys_two : from + 2 ≤ length bs → columns_at bs from 2 ≡ byte_at bs from ∷ byte_at bs (from + 1) ∷ []
  unfolding columns_at
  keys_two h =
      let l : from < length bs = omega arith in
      let m : suc from < length bs = omega arith in
      rw (drop-cons bs from 0 l, drop-cons bs (suc from) 0 m, add-one)
