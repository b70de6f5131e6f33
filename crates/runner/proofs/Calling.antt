-- Plan, then catalogue, then work (document 01, 'The eight refusals').
--     accepted                  a plan that was accepted
--     known_rows                a catalogue that was accepted is one that steps can walk
--     refusal_leaves            a refusal leaves zeros, once all cells are cleared
--     bad_plan_leaves, bad_catalogue_leaves, stopped_leaves, run_leaves     each way out, as what the whole call
--                                                                           answers and leaves
--     cleared                   what is left once the cells past the filled are zero
use Rattle.std.specs.Prelude.{Result, Ok, Err}
use Prim.Native.Nat.{ℕ, ◌*◌, ◌-◌}
use mathlib.Core.Path.{◌≡◌, refl, sym, ap, ap₂, ◌∙◌, subst}
use mathlib.Core.List.{List, [], ◌∷◌}
use native.Mathlib.Omega.{arith}
use lib.IntN.{ℤ, pos}
use lib.ListN.{length, take, replicate}
use Rattle.codes.specs.Refusals.{number_of, refusal_of}
use Rattle.codes.specs.declared.refusals.Refusal.{Refusal}
use Rattle.codes.specs.declared.refusals.Stop.{Stop}
use Rattle.laws.specs.Attempt.{Reading, reads, reading, Work}
use Rattle.meaning.specs.Calls as Calls
use Rattle.meaning.specs.Calls.{Outcome, refusal, run_outcome, run_call, room, last_table}
use Rattle.laws.specs.Rows.{padded}
use Rattle.meaning.specs.Catalogue.{Catalogue, catalogue_of}
use Rattle.meaning.specs.Plan.{Placed}
use Rattle.meaning.specs.Run.{Filled, running}
use Rattle.meaning.specs.World.{world_of}
use Rattle.catalogue.specs.Answers as Answers
use Rattle.catalogue.proofs.Accepted as Catalogues
use Rattle.step_parts.specs.Steps.{Known}
use Rattle.plans.specs.Walk.{checked, plan_count}
use Rattle.plans.proofs.Callers.{check_reads, check_refuses}
use Rattle.running.specs.declared.Tables.{Tables}
use Rattle.running.specs.Leaving.{Walks, operators_in, AcceptedPlan, carried_out}
use Rattle.runner.specs.Answers.{answered, filled_by}
use Rattle.runner.specs.Calling.{LeavesRan}

-- a refusal leaves zeros
refusal_leaves : (r : Refusal) (cells : List ℤ) →
    LeavesRan (refusal (pos 0) (length cells) (number_of r.reason) r.place) cells (Err r)
unfolding refusal padded answered filled_by
refusal_leaves r cells =
    let none : length cells - 0 ≡ length cells = omega arith in
    record { answer = refl; left = ap (λ (k : ℕ). replicate k (pos 0)) none; within = omega arith }

-- the outcome of the operators
abbrev Leaves : Work Filled → List ℤ → Result Tables Refusal → Type 0
Leaves o cells r = LeavesRan (run_outcome (length cells) (reads o)) cells r

tables_leave : (o : Work Filled) (cells : List ℤ) (t : Tables) → Walks o cells (Ok t) → Leaves o cells (Ok t)
unfolding Walks run_outcome answered filled_by
tables_leave o cells t (f, e, h) =
    subst (λ (x : Work Filled). Leaves x cells (Ok t)) (sym e)
    (record {
      answer =
          ap (λ (s : ℕ). Calls.gives (s ∷ t.rows ∷ t.filled ∷ [])) h.from
          ∙ ap₂ (λ (n r : ℕ). Calls.gives ((n - r * 3) ∷ r ∷ n ∷ [])) h.count h.last;
      left = ap (padded (pos 0) (length cells)) h.tables;
      within = h.within;
    })

stop_leaves : (o : Work Filled) (cells : List ℤ) (s : Stop) → Walks o cells (Err s) →
    Leaves o cells (Err (refusal_of s))
unfolding Walks run_outcome
stop_leaves o cells (Stop.Full p) e =
    subst (λ (x : Work Filled). Leaves x cells (Err (refusal_of (Stop.Full p)))) (sym e)
    (refusal_leaves (refusal_of (Stop.Full p)) cells)
stop_leaves o cells (Stop.Failed p) e =
    subst (λ (x : Work Filled). Leaves x cells (Err (refusal_of (Stop.Failed p)))) (sym e)
    (refusal_leaves (refusal_of (Stop.Failed p)) cells)

module _ (plan doc : List ℕ) where
  -- the call, by the plan and the catalogue that were read
  by_reading : ℕ → Reading (List Placed) → Reading Catalogue → Outcome ℤ
  by_reading lent ps c =
      run_outcome lent
      (reading ps (λ os. reading c (λ d. reads (running (world_of d) (room lent) os [] 0))))

  module _ (cells : List ℤ) where
    pub bad_plan_leaves : (r : Refusal) → checked (Err r) ≡ plan_count plan →
        LeavesRan (run_call plan doc (length cells)) cells (Err r)
    unfolding run_call run_outcome reading
    bad_plan_leaves r e = rw (check_refuses plan (Err r) e r refl) (refusal_leaves r cells)

    module _ (n : ℕ) (e : checked (Ok n) ≡ plan_count plan) where
      pub accepted : AcceptedPlan plan
      unfolding operators_in
      accepted =
          let (ps, is, many) = check_reads plan (Ok n) e n refl in
          is ∙ ap reads (sym (ap operators_in is))

      pub bad_catalogue_leaves : (r : Refusal) → Answers.answered (Err r) ≡ Calls.catalogue_call doc →
          LeavesRan (run_call plan doc (length cells)) cells (Err r)
      unfolding run_call run_outcome reading by_reading
      bad_catalogue_leaves r h =
          subst (λ (o : Outcome ℤ). LeavesRan o cells (Err r))
          (sym
          (ap₂ (by_reading (length cells)) accepted (Catalogues.unsound doc r h)))
          (refusal_leaves r cells)

      module _ (rows : ℕ) (h : Answers.answered (Ok rows) ≡ Calls.catalogue_call doc) where
        pub known_rows : Known doc rows
        unfolding catalogue_of
        known_rows =
            let s = Catalogues.accepted_sound doc rows h in
            record { few = s.few; there = omega (arith, s.whole); nested = s.nested }

        module _ (lent : ℕ) (l : length cells ≡ lent) where
          abbrev made : Work Filled
          made = carried_out plan doc rows (room lent)

          call_is : run_call plan doc lent ≡ run_outcome (length cells) (reads made)
          unfolding run_call reading by_reading
          call_is =
              ap₂ (by_reading lent) accepted (Catalogues.accepted doc rows h)
              ∙ ap (λ (k : ℕ). run_outcome k (reads made)) (sym l)

          pub run_leaves : (t : Tables) → Walks (carried_out plan doc rows (room lent)) cells (Ok t) →
              LeavesRan (run_call plan doc lent) cells (Ok t)
          run_leaves t w =
              subst (λ (x : Outcome ℤ). LeavesRan x cells (Ok t)) (sym call_is)
              (tables_leave (carried_out plan doc rows (room lent)) cells t w)

          pub stopped_leaves : (s : Stop) → Walks (carried_out plan doc rows (room lent)) cells (Err s) →
              LeavesRan (run_call plan doc lent) cells (Err (refusal_of s))
          stopped_leaves s w =
              subst (λ (x : Outcome ℤ). LeavesRan x cells (Err (refusal_of s))) (sym call_is)
              (stop_leaves (carried_out plan doc rows (room lent)) cells s w)

-- the cells past the filled are zero
pub cleared :
    (o : Outcome ℤ) (cells after : List ℤ) (r : Result Tables Refusal) (n : ℕ) → LeavesRan o cells r → n ≡ filled_by r →
    after ≡ padded (pos 0) (length cells) (take n cells) → after ≡ o.left
cleared o cells after r n h i e = e ∙ ap (λ (k : ℕ). padded (pos 0) (length cells) (take k cells)) i ∙ h.left
