-- Walking over a plan, operator by operator.
--     walk_start                       nothing done
--     walk_end                         at the end of the bytes
--     walk_excess, walk_bad, walk_on   a 513th operator; an unsound one; a sound one
--     last_width, last_at_lem              the last operator of those done
use Prim.Native.Nat.{ℕ, suc, ◌+◌, ◌-◌, ◌≤◌, ◌<◌}
use mathlib.Core.Path.{◌≡◌, refl, sym, ◌∙◌, ap, subst}
use mathlib.Core.List.{List, [], ◌∷◌, ◌++◌}
use native.Mathlib.Omega.{arith}
use lib.ListN.{length, get_or, length-append}
use Rattle.laws.specs.Attempt.{fails, gives, attempt, refuses}
use Rattle.meaning.specs.Plan.{Op, Placed, operator_at, width_of, placed_at, last_of, ended, plan_from, plan_read}
use Rattle.theorems.specs.PlanFields.{WidthFits}
use Rattle.theorems.specs.PlanWidths.{Every, widths}
use Rattle.theorems.proofs.PlanFields.{widths_checked}
use Rattle.theorems.proofs.PlanSteps.{from_end, from_none, from_bad, from_on, placed_is}
use Rattle.plans.specs.Walk.{last_at, Walk}
use Rattle.theorems.specs.PlanRead.{widths_of}
use Rattle.cells.specs.Bytes.{Bytes}
use Rattle.plan_records.proofs.Fields.{operator_ends}

-- The last of those done

last_append : (p q : Placed) (ps : List Placed) → last_of p (ps ++ (q ∷ [])) ≡ q
unfolding last_of
last_append p q [] = refl
last_append p q (x ∷ xs) = last_append x q xs

pub last_at_lem : (q : Placed) (ps : List Placed) → last_at (ps ++ (q ∷ [])) ≡ q.at
unfolding last_at last_of
last_at_lem q [] = refl
last_at_lem q (p ∷ ps) = ap (λ (x : Placed). x.at) (last_append p q ps)

pub last_width : (p : Placed) (ps : List Placed) → (last_of p ps).width ≡ get_or (widths_of (p ∷ ps)) (length ps) 0
unfolding last_of
last_width p [] = refl
last_width p (q ∷ qs) = last_width q qs

pub widths_more : (ps : List Placed) (p : Placed) → widths_of (ps ++ (p ∷ [])) ≡ widths_of ps ++ (p.width ∷ [])
widths_more [] p = refl
widths_more (x ∷ xs) p = ap (λ (ws : List ℕ). x.width ∷ ws) (widths_more xs p)

pub widths_length : (ps : List Placed) → length (widths_of ps) ≡ length ps
widths_length [] = refl
widths_length (x ∷ xs) = ap suc (widths_length xs)

-- A walk

pub walk_start : (bs : List ℕ) → Walk bs [] 0
unfolding plan_read Every
walk_start bs = record { few = omega arith; each = tt; rest = refl }

pub unplaced : (bs ws : List ℕ) (at : ℕ) → operator_at bs at ≡ fails → placed_at bs ws at ≡ fails
unfolding placed_at attempt
unplaced bs ws at p = rw p

pub misplaced :
    (bs ws : List ℕ) (at next : ℕ) (o : Op) → operator_at bs at ≡ gives (o, next) → width_of ws o ≡ fails →
    placed_at bs ws at ≡ fails
unfolding placed_at attempt
misplaced bs ws at next o p q = rw (p, q)

-- the widths after one more operator
widths_on :
    (ws : List ℕ) (o : Op) (w : ℕ) → width_of ws o ≡ gives w → widths ws (o ∷ []) ≡ gives (ws ++ (w ∷ []))
unfolding widths attempt
widths_on ws o w e = rw e

module _ (bs : List ℕ) (done : List Placed) (at : ℕ) (k : Walk bs done at) where
  pub walk_end : length bs ≤ at → plan_read bs ≡ ended done
  walk_end h = sym k.rest ∙ from_end bs done at (512 - length done) h

  module _ (h : at < length bs) where
    pub walk_excess : 512 ≤ length done → plan_read bs ≡ refuses 5 at
    walk_excess l =
        let e : 512 - length done ≡ 0 = omega (arith, k.few) in
        sym k.rest ∙ ap (λ (n : ℕ). plan_from n bs done at) e ∙ from_none bs done at h

    module _ (l : length done < 512) where
      left_one : 512 - length done ≡ suc (511 - length done)
      left_one = omega arith

      rest_one : plan_from (suc (511 - length done)) bs done at ≡ plan_read bs
      rest_one = ap (λ (n : ℕ). plan_from n bs done at) (sym left_one) ∙ k.rest

      pub walk_bad : placed_at bs (widths_of done) at ≡ fails → plan_read bs ≡ refuses 5 at
      walk_bad e = sym rest_one ∙ from_bad bs done at h (511 - length done) e

      pub walk_on :
          Bytes bs → (o : Op) (next w : ℕ) → operator_at bs at ≡ gives (o, next) →
          width_of (widths_of done) o ≡ gives w → Walk bs (done ++ (record { at = at; op = o; width = w } ∷ [])) next
      unfolding Every
      walk_on b o next w p q =
          let x : Placed = record { at = at; op = o; width = w } in
          let n : length (done ++ (x ∷ [])) ≡ length done + 1 = length-append done (x ∷ []) in
          let m : 512 - length (done ++ (x ∷ [])) ≡ 511 - length done = omega (arith, n) in
          let y = operator_ends bs b at (o, next) p in
          let z =
          widths_checked (o ∷ []) (widths_of done) (widths_of done ++ (w ∷ [])) k.each
          (omega (arith, widths_length done)) (y.own, tt) (widths_on (widths_of done) o w q)
          in
          record {
            few = omega (arith, n);
            each = subst (Every WidthFits) (sym (widths_more done x)) z.1;
            rest =
                ap (λ (n : ℕ). plan_from n bs (done ++ (x ∷ [])) next) m
                ∙ sym (from_on bs done at h (511 - length done) next x (placed_is bs (widths_of done) at next o w p q))
                ∙ rest_one;
          }
