-- The plan check, turn by turn.
--     checking_start           nothing done
--     checking_room, checking_place     there is room for the widths; and for one more before the 512th
--     checking_excess, checking_unread, checking_unfit      refusal 5 at the operator at hand
--     checking_small, checking_on     a sound operator: its width is small, and the check goes on behind it
--     checking_none, checking_three, checking_other         the end of the bytes: none; the last of width 3, or not
use Rattle.std.specs.Prelude.{Option, Some, None, Result, Ok, Err}
use Prim.Native.Nat.{ℕ, ◌+◌, ◌-◌, ◌≤◌, ◌<◌}
use mathlib.Core.Path.{◌≡◌, refl, sym, ◌∙◌, ap}
use mathlib.Core.List.{List, [], ◌∷◌, ◌++◌}
use mathlib.Core.Bool.{false}
use native.Mathlib.Omega.{arith}
use native.Mathlib.Numerals.{add-one}
use borrow.Author.Tests.{ne_eqb}
use lib.Dec.{eqb}
use lib.ListN.{length, get_or, take, set, length-append, length-set}
use lib.Seq.{take-suc-set, get_or-take}
use Rattle.codes.specs.Refusals.{refusal}
use Rattle.codes.specs.declared.refusals.Reason.TheVariants as Reason
use Rattle.codes.specs.declared.refusals.Refusal.{Refusal}
use Rattle.laws.specs.Attempt.{fails, gives, refuses, reads, reading, unless}
use Rattle.meaning.specs.Plan.{Op, Placed, operator_at, width_of, last_of, ended, plan_read}
use Rattle.theorems.specs.PlanFields.{WidthFits}
use Rattle.theorems.specs.PlanWidths.{Every}
use Rattle.plan_records.specs.declared.Decoded.{Decoded}
use Rattle.plan_records.specs.Decoded.{operator_of, reading_of, ColumnsStand, ReadingStands, Means}
use Rattle.plan_widths.specs.Widths.{width_field}
use Rattle.plans.specs.Walk.{checked, plan_count, last_at, Walk, Checking}
use Rattle.theorems.specs.PlanRead.{widths_of}
use Rattle.cells.specs.Bytes.{Bytes}
use Rattle.plans.proofs.Walking.{walk_start, walk_end, walk_excess, walk_bad, walk_on, last_at_lem, last_width}
use Rattle.plans.proofs.Walking.{widths_more, unplaced, misplaced}

pub checking_start : (bs ws : List ℕ) → length ws ≡ 512 → Checking bs ws 0 0 0
unfolding last_at
checking_start bs ws h =
    record { done = []; walk = walk_start bs; count = refl; long = h; widths = refl; latest = refl }

-- refusal 5, at a place
abbrev pub unsound : ℕ → Result ℕ Refusal
unsound p = Err (refusal Reason.Plan p)

refused_at_lem : (bs : List ℕ) (p : ℕ) → plan_read bs ≡ refuses 5 p → checked (unsound p) ≡ plan_count bs
unfolding checked plan_count reading
refused_at_lem bs p e = rw e

-- What reading found

module _ (bs : List ℕ) (at : ℕ) (r : Option Decoded) (m : Means bs r (operator_at bs at)) where
  pub unread : r ≡ None → operator_at bs at ≡ fails
  unfolding reading_of
  unread h = sym m.means ∙ ap (reading_of bs) h

  module _ (f : Decoded) (h : r ≡ Some f) where
    pub found : operator_at bs at ≡ gives (operator_of bs f.operator, f.next)
    unfolding reading_of
    found = sym m.means ∙ ap (reading_of bs) h

    pub found_stands : ColumnsStand bs f.operator
    unfolding ReadingStands
    found_stands = rw h at m.stands

-- One turn

pub last_each : (xs : List ℕ) (w : ℕ) → Every WidthFits (xs ++ (w ∷ [])) → WidthFits w
unfolding Every
last_each [] w h = h.0
last_each (x ∷ xs) w h = last_each xs w h.1

module _ {bs ws : List ℕ} {at n last : ℕ} (k : Checking bs ws at n last) where
  pub checking_room : n ≤ length ws
  checking_room = omega (arith, k.count, k.walk.few, k.long)

  pub checking_place : (n ≡ 512 → ⊥) → n < length ws
  checking_place z = omega (arith, z, checking_room, k.long)

  module _ (h : at < length bs) where
    pub checking_excess : n ≡ 512 → checked (unsound at) ≡ plan_count bs
    checking_excess e = refused_at_lem bs at (walk_excess bs k.done at k.walk h (omega (arith, k.count)))

    module _ (z : n ≡ 512 → ⊥) where
      more : length k.done < 512
      more = omega (arith, z, k.count, k.walk.few)

      pub checking_unread : operator_at bs at ≡ fails → checked (unsound at) ≡ plan_count bs
      checking_unread e =
          refused_at_lem bs at (walk_bad bs k.done at k.walk h more (unplaced bs (widths_of k.done) at e))

      module _
          (o : Op) (next : ℕ) (p : operator_at bs at ≡ gives (o, next)) (x : Option ℕ)
          (i : width_field x ≡ width_of (take n ws) o) where
        here : width_field x ≡ width_of (widths_of k.done) o
        here = i ∙ ap (λ (us : List ℕ). width_of us o) (sym k.widths)

        pub checking_unfit : x ≡ None → checked (unsound at) ≡ plan_count bs
        checking_unfit q =
            refused_at_lem bs at
            (walk_bad bs k.done at k.walk h more
            (misplaced bs (widths_of k.done) at next o p (sym here ∙ ap width_field q)))

        module _ (b : Bytes bs) (w : ℕ) (q : x ≡ Some w) where
          abbrev placed : Placed
          placed = record { at = at; op = o; width = w }

          on : Walk bs (k.done ++ (placed ∷ [])) next
          on = walk_on bs k.done at k.walk h more b o next w p (sym here ∙ ap width_field q)

          pub checking_small : w ≤ 6
          checking_small = (last_each (widths_of k.done) w (rw (widths_more k.done placed) at on.each)).high

          pub checking_on : Checking bs (set ws n w) next (n + 1) at
          checking_on =
              let l : n < length ws = omega (arith, k.long, k.count, more) in
              record {
                done = k.done ++ (placed ∷ []);
                walk = on;
                count = length-append k.done (placed ∷ []) ∙ omega (arith, k.count);
                long = length-set ws n w ∙ k.long;
                widths =
                    widths_more k.done placed
                    ∙ ap (λ (us : List ℕ). us ++ (w ∷ [])) k.widths
                    ∙ sym (take-suc-set ws n w l)
                    ∙ ap (λ (m : ℕ). take m (set ws n w)) (sym (add-one n));
                latest = last_at_lem placed k.done;
              }

-- The end of the bytes

ended_three :
    (ps : List Placed) (n : ℕ) → length ps ≡ n → (n ≡ 0 → ⊥) → get_or (widths_of ps) (n - 1) 0 ≡ 3 → ended ps ≡ reads ps
unfolding ended unless
ended_three [] n c z e = absurd (z (sym c))
ended_three (p ∷ ps) n c z e =
    let l : n - 1 ≡ length ps = omega arith in
    rw (last_width p ps, ← l, e)

ended_other :
    (ps : List Placed) (n : ℕ) → length ps ≡ n → (n ≡ 0 → ⊥) → (get_or (widths_of ps) (n - 1) 0 ≡ 3 → ⊥) →
    ended ps ≡ refuses 5 (last_at ps)
unfolding ended unless last_at
ended_other [] n c z e = absurd (z (sym c))
ended_other (p ∷ ps) n c z e =
    let l : n - 1 ≡ length ps = omega arith in
    let w : eqb (last_of p ps).width 3 ≡ false =
    ne_eqb _ 3 (λ q. e (ap (λ (m : ℕ). get_or (widths_of (p ∷ ps)) m 0) l ∙ sym (last_width p ps) ∙ q))
    in
    rw w

module _ {bs ws : List ℕ} {at n last : ℕ} (k : Checking bs ws at n last) (h : length bs ≤ at) where
  whole : plan_read bs ≡ ended k.done
  whole = walk_end bs k.done at k.walk h

  nothing : (ps : List Placed) → length ps ≡ 0 → ended ps ≡ refuses 5 0
  unfolding ended
  nothing [] e = refl
  nothing (p ∷ ps) e = absurd (omega arith)

  pub checking_none : n ≡ 0 → checked (unsound 0) ≡ plan_count bs
  checking_none e = refused_at_lem bs 0 (whole ∙ nothing k.done (k.count ∙ e))

  module _ (z : n ≡ 0 → ⊥) where
    final : get_or (widths_of k.done) (n - 1) 0 ≡ get_or ws (n - 1) 0
    final =
        let l : n - 1 < n = omega (arith, z) in
        ap (λ (us : List ℕ). get_or us (n - 1) 0) k.widths ∙ get_or-take n ws (n - 1) 0 l

    pub checking_three : get_or ws (n - 1) 0 ≡ 3 → checked (Ok n) ≡ plan_count bs
    unfolding checked plan_count reading
    checking_three e =
        rw (whole ∙ ended_three k.done n k.count z (final ∙ e)) (ap reads (sym k.count))

    pub checking_other : (get_or ws (n - 1) 0 ≡ 3 → ⊥) → checked (unsound last) ≡ plan_count bs
    checking_other e =
        refused_at_lem bs last
        (whole ∙ ended_other k.done n k.count z (λ q. e (sym final ∙ q)) ∙ ap (refuses 5) k.latest)
