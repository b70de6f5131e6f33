-- The sentence on room (document 01, 'Room'), of the calls.
--     six_below           work of one outcome, ended as both calls end, answers 6 exactly below what it takes
--     run_six, evaluate_six       .. the run, the evaluation
--     filled_fills, count_stands  the counts that they answer
use Prim.Native.Nat.{ℕ, ◌≤◌}
use mathlib.Core.Path.{◌≡◌, refl, sym, ap, ◌∙◌}
use mathlib.Core.List.{List, [], ◌∷◌}
use native.Mathlib.Omega.{arith}
use lib.IntN.{ℤ}
use Rattle.laws.specs.Attempt.{reads, Work}
use Rattle.meaning.specs.World.{world_of}
use Rattle.meaning.specs.Counted.{evaluate}
use Rattle.meaning.specs.Run.{running}
use Rattle.meaning.specs.Calls.{gives, Outcome, room, run_call, evaluate_call}
use Rattle.theorems.proofs.Counts.{measured, settled}
use Rattle.theorems.specs.Counts.{Measured}
use Rattle.theorems.proofs.Counted.{running_measured}
use Rattle.agreement.specs.Passing.{Passed, PlanPassed, stands, fills, SixBelow}
use Rattle.agreement.proofs.Room.{Exact, exact_short, exact_enough, evaluate_exact, running_exact}
use Rattle.agreement.proofs.Room.{standing_count, filling_filled}
use Rattle.agreement.proofs.EngineCalls.{evaluated_plain, ran_plain, ended_six}
use Rattle.agreement.specs.EngineCalls.{ended, evaluated, ran, Plain}
use Rattle.agreement.proofs.EngineCalls.{ended_full, ended_gives, ended_answer}
use Rattle.agreement.proofs.Answers.{evaluate_at, run_at, answer_of_lem}

module _ {A : Type 0} {cost : A → ℕ} {sound : A → Type 0} (k : ℕ) (work : ℕ → Work A) (f : ℕ → A → Outcome ℤ)
    (call : ℕ → Outcome ℤ) (ends : (lent : ℕ) → call lent ≡ ended (f lent) lent (reads (work (room lent))))
    (plain : (lent : ℕ) → Plain (f lent)) (same : (lent lent' : ℕ) (x : A) → (f lent x).answer ≡ (f lent' x).answer)
    (exact : (left : ℕ) → Exact left k (work left)) (m : Measured 0 cost sound work) where
  six_below : SixBelow k call
  six_below =
      record {
        below = λ lent h.
            let (p, e) = ended_full (f lent) (plain lent) lent (work (room lent)) (exact_short (exact (room lent)) h) in
            (p, answer_of_lem (ends lent) ∙ e);
        enough = λ lent h r.
            exact_enough (exact (room lent)) h
            (ended_six (f lent) (plain lent) lent (work (room lent)) (r.0, sym (answer_of_lem (ends lent)) ∙ r.1));
        one = λ lent lent' h h'.
            answer_of_lem (ends lent)
            ∙ ap (λ (w : Work A). (ended (f lent) lent (reads w)).answer) (settles lent h)
            ∙ ended_answer (f lent) (f lent') (same lent lent') lent lent' m.outcome
            ∙ ap (λ (w : Work A). (ended (f lent') lent' (reads w)).answer) (sym (settles lent' h'))
            ∙ sym (answer_of_lem (ends lent'));
      }
    where
      settles : (lent : ℕ) → k ≤ room lent → work (room lent) ≡ m.outcome
      settles lent h = (settled m (room lent) (omega arith) (exact_enough (exact (room lent)) h)).1

module _ (bytes doc : List ℕ) (i : PlanPassed bytes doc) where
  pub run_six : SixBelow (fills i) (run_call bytes doc)
  unfolding ran
  run_six =
      six_below (fills i) (λ left. running (world_of i.catalogue) left i.placed [] 0) ran (run_call bytes doc)
      (run_at i) ran_plain (λ lent lent' f. refl) (λ left. running_exact (world_of i.catalogue) left i.placed)
      (running_measured (world_of i.catalogue) i.placed [] 0)

  pub filled_fills : (lent start rows filled : ℕ)
      → (run_call bytes doc lent).answer ≡ gives (start ∷ rows ∷ filled ∷ []) → filled ≡ fills i
  unfolding ran
  filled_fills lent start rows filled e =
      let (f, d, a) = ended_gives (ran lent) (ran_plain lent) lent _ _ (sym (answer_of_lem (run_at i lent)) ∙ e) in
      let n : f.filled ≡ filled = cc in
      sym n ∙ sym (filling_filled (world_of i.catalogue) (room lent) i.placed f d)

module _ (query doc : List ℕ) (i : Passed query doc) where
  pub evaluate_six : SixBelow (stands i) (evaluate_call query doc)
  unfolding evaluated
  evaluate_six =
      six_below (stands i) (λ left. evaluate (world_of i.catalogue) left (λ v. []) i.read.tree) evaluated
      (evaluate_call query doc) (evaluate_at i) evaluated_plain (λ lent lent' s. refl)
      (λ left. evaluate_exact (world_of i.catalogue) left (λ v. []) i.read.tree)
      (measured (world_of i.catalogue) (λ v. []) i.read.tree)

  pub count_stands : (lent items count : ℕ) → (evaluate_call query doc lent).answer ≡ gives (items ∷ count ∷ [])
      → count ≡ stands i
  unfolding evaluated
  count_stands lent items count e =
      let (s, d, a) =
      ended_gives (evaluated lent) (evaluated_plain lent) lent _ _ (sym (answer_of_lem (evaluate_at i lent)) ∙ e) in
      let n : s.count ≡ count = cc in
      sym n ∙ sym (standing_count (world_of i.catalogue) (room lent) (λ v. []) i.read.tree s d)
