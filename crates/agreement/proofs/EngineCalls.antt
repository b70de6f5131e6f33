-- The calls of both engines end in one way: a refusal as it was met, 6 or 7 at the record at work, or what is done.
--     evaluate_ended, run_ended     the outcomes of both calls are of this form
--     ended-..                what an answer says of the work, and the other way
--     padded-.., rows_flat    cells and zeros behind them; rows of one width laid end to end
use Prim.Native.Nat.{ℕ, ◌+◌, ◌-◌, ◌*◌, ◌≤◌}
use mathlib.Core.Path.{◌≡◌, refl, sym, ap, ap₂, ◌∙◌}
use mathlib.Core.List.{List, [], ◌∷◌, ◌++◌, append_assoc}
use native.Mathlib.Omega.{arith}
use lib.IntN.{ℤ, pos}
use lib.ListN.{length, take, drop, replicate, length-append, length-replicate}
use lib.Seq.{take_at, drop_at}
use Rattle.laws.specs.Lists.{gather}
use Rattle.laws.specs.Rows.{row, rows_at, padded, flat}
use Rattle.laws.specs.Attempt.{Reading, refuses, reads, Work, full, failed, done, Found}
use Rattle.meaning.specs.Counted.{Standing}
use Rattle.meaning.specs.Operators.{Table}
use Rattle.meaning.specs.Run.{Filled}
use Rattle.meaning.specs.Calls.{gives, refused, Outcome, refusal, last_table, run_outcome}
use Rattle.meaning.specs.Calls.{evaluate_outcome}
use Rattle.theorems.specs.Counts.{Full}
use Rattle.agreement.specs.Passing.{Refused}
use Rattle.agreement.specs.RowWidths.{RowsOf}
use Rattle.agreement.specs.EngineCalls.{ended, evaluated, ran, Plain, Settled, failing, finished}

pub evaluate_ended : (lent : ℕ) (m : Reading (Work Standing)) → evaluate_outcome lent m ≡ ended (evaluated lent) lent m
unfolding evaluate_outcome ended evaluated
evaluate_ended lent (refuses n p) = refl
evaluate_ended lent (reads (full p)) = refl
evaluate_ended lent (reads (failed p)) = refl
evaluate_ended lent (reads (done s)) = refl

pub run_ended : (lent : ℕ) (m : Reading (Work Filled)) → run_outcome lent m ≡ ended (ran lent) lent m
unfolding run_outcome ended ran
run_ended lent (refuses n p) = refl
run_ended lent (reads (full p)) = refl
run_ended lent (reads (failed p)) = refl
run_ended lent (reads (done f)) = refl

-- Answers

pub gives_refused : {P : Type 0} (ns : List ℕ) (n p : ℕ) → gives ns ≡ refused n p → P
gives_refused ns n p e = let z : ◌≡◌ {A = ℕ} 0 1 = cc in absurd (omega arith)

pub numbers_same : {n m p q : ℕ} → refused n p ≡ refused m q → n ≡ m
numbers_same e = cc

pub evaluated_plain : (lent : ℕ) → Plain (evaluated lent)
unfolding evaluated
evaluated_plain lent s = (_, refl)

pub ran_plain : (lent : ℕ) → Plain (ran lent)
unfolding ran
ran_plain lent f = (_, refl)

module _ {A : Type 0} (f : A → Outcome ℤ) (plain : Plain f) (lent : ℕ) where
  done_refused : {P : Type 0} (x : A) (n p : ℕ) → (f x).answer ≡ refused n p → P
  done_refused x n p e = let (ns, d) = plain x in gives_refused ns n p (sym d ∙ e)

  pub ended_zeroed : (m : Reading (Work A)) (n p : ℕ) → (ended f lent m).answer ≡ refused n p
      → (ended f lent m).left ≡ replicate lent (pos 0)
  unfolding ended refusal
  ended_zeroed (refuses k q) n p e = refl
  ended_zeroed (reads (full q)) n p e = refl
  ended_zeroed (reads (failed q)) n p e = refl
  ended_zeroed (reads (done x)) n p e = done_refused x n p e

  pub ended_long : (m : Reading (Work A)) → Found (λ k. (x : A) → k ≡ done x → length (f x).left ≡ lent) m
      → length (ended f lent m).left ≡ lent
  unfolding ended refusal
  ended_long (refuses k q) h = length-replicate lent (pos 0)
  ended_long (reads (full q)) h = length-replicate lent (pos 0)
  ended_long (reads (failed q)) h = length-replicate lent (pos 0)
  ended_long (reads (done x)) h = h.found (done x) refl x refl

  pub ended_six : (m : Work A) → Refused 6 (ended f lent (reads m)).answer → Full m
  unfolding ended refusal
  ended_six (full q) h = (q, refl)
  ended_six (failed q) h = absurd (omega (arith, numbers_same h.1))
  ended_six (done x) h = done_refused x 6 h.0 h.1

  pub ended_full : (m : Work A) → Full m → Refused 6 (ended f lent (reads m)).answer
  unfolding ended refusal
  ended_full m h = (h.0, rw h.1 refl)

  pub ended_seven : (m : Work A) → Refused 7 (ended f lent (reads m)).answer → (p : ℕ) × (m ≡ failed p)
  unfolding ended refusal
  ended_seven (full q) h = absurd (omega (arith, numbers_same h.1))
  ended_seven (failed q) h = (q, refl)
  ended_seven (done x) h = done_refused x 7 h.0 h.1

  pub ended_gives : (m : Work A) (ns : List ℕ) → (ended f lent (reads m)).answer ≡ gives ns
      → (x : A) × (m ≡ done x) × ((f x).answer ≡ gives ns)
  unfolding ended refusal
  ended_gives (full q) ns e = gives_refused ns 6 q (sym e)
  ended_gives (failed q) ns e = gives_refused ns 7 q (sym e)
  ended_gives (done x) ns e = (x, refl, e)

pub settles : {A : Type 0} (f : A → Outcome ℤ) → Plain f → (lent : ℕ) (m : Work A)
    → ¬ (Refused 6 (ended f lent (reads m)).answer) → Settled m
settles f plain lent (full q) n = absurd (n (ended_full f plain lent (full q) (q, refl)))
settles f plain lent (failed q) n = failing q refl
settles f plain lent (done x) n = finished x refl

-- the same work ends in the same answer, whatever was lent
pub ended_answer : {A : Type 0} (f g : A → Outcome ℤ) → ((x : A) → (f x).answer ≡ (g x).answer) → (lent lent' : ℕ)
    (m : Work A) → (ended f lent (reads m)).answer ≡ (ended g lent' (reads m)).answer
unfolding ended refusal
ended_answer f g h lent lent' (full q) = refl
ended_answer f g h lent lent' (failed q) = refl
ended_answer f g h lent lent' (done x) = h x

-- Cells

module _ {A : Type 0} (z : A) (lent : ℕ) (xs : List A) where
  pub length_padded : length xs ≤ lent → length (padded z lent xs) ≡ lent
  unfolding padded
  length_padded h =
      length-append xs (replicate (lent - length xs) z)
      ∙ ap (λ (n : ℕ). length xs + n) (length-replicate (lent - length xs) z) ∙ omega arith

  pub take_padded : (n : ℕ) → n ≡ length xs → take n (padded z lent xs) ≡ xs
  unfolding padded
  take_padded n e = take_at xs (replicate (lent - length xs) z) n (sym e)

-- rows of one width, laid end to end behind xs, are the rows from there on
pub rows_flat : (xs : List ℤ) (t : Table) (ys zs : List ℤ) (w a : ℕ) → length xs ≡ a → RowsOf w t
    → zs ≡ xs ++ (flat t ++ ys) → rows_at zs a (length t) w ≡ t
unfolding rows_at row flat gather
rows_flat xs [] ys zs w a h k e = refl
rows_flat xs (r ∷ t) ys zs w a h k e =
    ap₂ ◌∷◌ first
    (rows_flat (xs ++ r) t ys zs w (a + w) (length-append xs r ∙ ap₂ ◌+◌ h k.0) k.1
    (e ∙ ap (λ (l : List ℤ). xs ++ l) (append_assoc r (flat t) ys) ∙ sym (append_assoc xs r (flat t ++ ys))))
  where
    first : take w (drop a zs) ≡ r
    first =
        ap (λ (l : List ℤ). take w (drop a l)) e
        ∙ ap (take w) (drop_at xs ((r ++ flat t) ++ ys) a h)
        ∙ ap (take w) (append_assoc r (flat t) ys)
        ∙ take_at r (flat t ++ ys) w k.0
