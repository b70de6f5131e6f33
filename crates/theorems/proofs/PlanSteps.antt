-- One turn of reading a plan (document 01, 'Plan operators').
--     from_end                          at the end of the bytes
--     from_none                         before it, where no more operators are allowed
--     from_one, from_bad, from_on       before it: one operator, which is unsound, or is sound and placed
--     placed_is                         an operator that is read and suits the tables before it is placed
use Prim.Native.Nat.{ℕ, zero, suc, ◌≤◌, ◌<◌}
use mathlib.Core.Path.{◌≡◌, ◌∙◌, ap}
use mathlib.Core.Bool.{Bool, true, false}
use mathlib.Core.List.{List, [], ◌∷◌, ◌++◌}
use borrow.Author.Tests.{le-leb, lt-leb}
use lib.ListN.{length}
use Rattle.laws.specs.Attempt.{fails, gives, attempt, Reading, refuses, reading, refusing}
use Rattle.meaning.specs.Plan.{Op, Placed, operator_at, width_of, placed_at, ended, plan_from}
use Rattle.theorems.specs.PlanRead.{widths_of}

-- At the end of the bytes, and before it

abbrev turn : Reading (List Placed) → Reading (List Placed) → Bool → Reading (List Placed)
turn a b t = elim t [ true ↦ a | false ↦ b ]

module _ (bs : List ℕ) (done : List Placed) (at : ℕ) where
  pub from_end : (left : ℕ) → length bs ≤ at → plan_from left bs done at ≡ ended done
  unfolding plan_from
  from_end zero h = ap (turn (ended done) (refuses 5 at)) (le-leb (length bs) at h)
  from_end (suc left) h =
      ap
      (turn (ended done)
      (reading (refusing 5 at (placed_at bs (widths_of done) at)) (λ o. plan_from left bs (done ++ (o.0 ∷ [])) o.1)))
      (le-leb (length bs) at h)

  module _ (h : at < length bs) where
    pub from_none : plan_from zero bs done at ≡ refuses 5 at
    unfolding plan_from
    from_none = ap (turn (ended done) (refuses 5 at)) (lt-leb (length bs) at h)

    pub from_one :
        (left : ℕ) →
        plan_from (suc left) bs done at ≡
        reading (refusing 5 at (placed_at bs (widths_of done) at)) (λ o. plan_from left bs (done ++ (o.0 ∷ [])) o.1)
    unfolding plan_from
    from_one left =
        ap
        (turn (ended done)
        (reading (refusing 5 at (placed_at bs (widths_of done) at)) (λ o. plan_from left bs (done ++ (o.0 ∷ [])) o.1)))
        (lt-leb (length bs) at h)

    pub from_bad : (left : ℕ) → placed_at bs (widths_of done) at ≡ fails → plan_from (suc left) bs done at ≡ refuses 5 at
    unfolding reading refusing
    from_bad left e = from_one left ∙ rw e

    pub from_on :
        (left next : ℕ) (p : Placed) → placed_at bs (widths_of done) at ≡ gives (p, next) →
        plan_from (suc left) bs done at ≡ plan_from left bs (done ++ (p ∷ [])) next
    unfolding reading refusing
    from_on left next p e = from_one left ∙ rw e

pub placed_is :
    (bs ws : List ℕ) (at next : ℕ) (o : Op) (w : ℕ) → operator_at bs at ≡ gives (o, next) → width_of ws o ≡ gives w →
    placed_at bs ws at ≡ gives (record { at = at; op = o; width = w }, next)
unfolding placed_at attempt
placed_is bs ws at next o w p q = rw (p, q)
