-- Where the refusals of each call come from (demand 1).
--     catalogue_whence .. evaluate_whence     each call's refusals, both ways
use Prim.Native.Nat.{ℕ, ◌≤◌, ◌<◌}
use mathlib.Core.Path.{◌≡◌, refl, sym, ap, ◌∙◌}
use mathlib.Core.List.{List, [], ◌∷◌}
use mathlib.Core.Bool.{Bool, true, false}
use native.Mathlib.Omega.{arith}
use borrow.Author.Tests.{leb-true, leb-false, le-leb, lt-leb}
use lib.Dec.{leb}
use lib.ListN.{length}
use Rattle.laws.specs.Attempt.{Reading, refuses, reads, reading, unless, Work, full, failed, done}
use Rattle.meaning.specs.Catalogue.{Catalogue, catalogue_read}
use Rattle.meaning.specs.World.{world_of}
use Rattle.meaning.specs.Query.{Query, Read, query_read}
use Rattle.meaning.specs.Counted.{Standing, evaluate}
use Rattle.meaning.specs.Plan.{Op, Placed, plan_read}
use Rattle.meaning.specs.Run.{Filled, running}
use Rattle.meaning.specs.Translation.{plan}
use Rattle.meaning.specs.Written.{written}
use Rattle.meaning.specs.Calls.{Answer, gives, refused, refusal, room, catalogue_answer, catalogue_call, query_answer}
use Rattle.meaning.specs.Calls.{query_call, plan_of, translate_outcome, translate_call, run_outcome, run_call}
use Rattle.meaning.specs.Calls.{evaluate_outcome, evaluate_call}
use Rattle.agreement.specs.Passing.{Passed, evaluation, PlanPassed, the_run}
use Rattle.agreement.proofs.EngineCalls.{gives_refused}
use Rattle.agreement.specs.EngineCalls.{ended, evaluated, ran}
use Rattle.agreement.proofs.Answers.{evaluate_at, run_at, answer_of_lem}
use Rattle.promises.specs.Promises.{Refuses, OfCatalogue, OfQuery, OfTranslation, too_many, longer}
use Rattle.promises.specs.Promises.{OfRun, of_plan, OfEvaluation}
use Rattle.promises.specs.Promises as Page
use Rattle.promises.proofs.Numbers.{catalogue_four, plan_five, query_three}

-- The two checks

pub catalogue_whence : (doc : List ℕ) → Refuses (catalogue_call doc) (OfCatalogue doc)
unfolding catalogue_call catalogue_answer
catalogue_whence doc =
    record {
      comes_from = λ n p e. let d = from n p (catalogue_read doc) refl e in (catalogue_four doc n p d, d);
      leads_to = λ n p h. rw h.1 refl;
    }
  where
    from : (n p : ℕ) (m : Reading Catalogue) → catalogue_read doc ≡ m → catalogue_answer m ≡ refused n p
        → catalogue_read doc ≡ refuses n p
    from n p (refuses k q) h e = cc
    from n p (reads c) h e = gives_refused _ n p e

pub query_whence : (query : List ℕ) → Refuses (query_call query) (OfQuery query)
unfolding query_call query_answer
query_whence query =
    record {
      comes_from = λ n p e.
          let d = from n p (query_read query) refl e in
          let t = query_three query n p d in
          (t.0, t.1, d);
      leads_to = λ n p h. rw h.2 refl;
    }
  where
    from : (n p : ℕ) (m : Reading Read) → query_read query ≡ m → query_answer m ≡ refused n p
        → query_read query ≡ refuses n p
    from n p (refuses k q) h e = cc
    from n p (reads c) h e = gives_refused _ n p e

-- The translator

module _ (query : List ℕ) (lent n p : ℕ) (r : Read) (accepted : query_read query ≡ reads r) where
  longer_from : (t : Bool) → leb (length (written (plan r.tree))) lent ≡ t → length (plan r.tree) ≤ 512
      → (translate_outcome lent (unless t 8 0 (reads (plan r.tree)))).answer ≡ refused n p
      → OfTranslation query lent n p
  unfolding translate_outcome unless refusal
  longer_from true h few e = gives_refused _ n p e
  longer_from false h few e = longer r accepted few (leb-false _ lent h) (cc) (cc)

  plan_from_lem : (t : Bool) → leb (length (plan r.tree)) 512 ≡ t
      → (translate_outcome lent
      (unless t 2 0 (unless (leb (length (written (plan r.tree))) lent) 8 0 (reads (plan r.tree))))).answer
      ≡ refused n p
      → OfTranslation query lent n p
  unfolding translate_outcome unless refusal
  plan_from_lem true h e = longer_from _ refl (leb-true _ 512 h) e
  plan_from_lem false h e = too_many r accepted (leb-false _ 512 h) (cc) (cc)

module _ (query : List ℕ) (lent n p : ℕ) where
  translate_from : (m : Reading Read) → query_read query ≡ m
      → (translate_outcome lent (reading m (λ r. plan_of lent r.tree))).answer ≡ refused n p
      → OfTranslation query lent n p
  unfolding translate_outcome reading refusal plan_of
  translate_from (refuses k q) h e =
      let d : query_read query ≡ refuses n p = cc in
      let t = query_three query n p d in
      Page.OfTranslation.of_query (t.0, t.1, d)
  translate_from (reads r) h e = plan_from_lem query lent n p r h _ refl e

  translate_to : OfTranslation query lent n p → (translate_call query lent).answer ≡ refused n p
  unfolding translate_call translate_outcome reading refusal plan_of unless
  translate_to (Page.OfTranslation.of_query h) = rw h.2 refl
  translate_to (too_many r h many a b) =
      let t : leb (length (plan r.tree)) 512 ≡ false = lt-leb _ 512 many in
      rw (h, t, a, b) refl
  translate_to (longer r h few long a b) =
      let t : leb (length (plan r.tree)) 512 ≡ true = le-leb _ 512 few in
      let u : leb (length (written (plan r.tree))) lent ≡ false = lt-leb _ lent long in
      rw (h, t, u, a, b) refl

pub translate_whence : (query : List ℕ) (lent : ℕ) → Refuses (translate_call query lent).answer
    (OfTranslation query lent)
unfolding translate_call
translate_whence query lent =
    record { comes_from = λ n p e. translate_from query lent n p _ refl e; leads_to = translate_to query lent }

-- The runner

module _ (bytes doc : List ℕ) (lent n p : ℕ) where
  work_from : (i : PlanPassed bytes doc) (w : Work Filled) → the_run i lent ≡ w
      → (run_outcome lent (reads w)).answer ≡ refused n p → OfRun bytes doc lent n p
  unfolding run_outcome refusal
  work_from i (full q) h e = Page.OfRun.no_room i (cc) (cc)
  work_from i (failed q) h e = Page.OfRun.failing i (cc) (cc)
  work_from i (done f) h e = gives_refused _ n p e

  run_from : (a : Reading (List Placed)) → plan_read bytes ≡ a → (b : Reading Catalogue) → catalogue_read doc ≡ b
      → (run_outcome lent
      (reading a (λ ps. reading b (λ c. reads (running (world_of c) (room lent) ps [] 0))))).answer ≡ refused n p
      → OfRun bytes doc lent n p
  unfolding run_outcome reading refusal
  run_from (refuses k q) h b g e =
      let d : plan_read bytes ≡ refuses n p = cc in
      of_plan (plan_five bytes n p d) d
  run_from (reads ps) h (refuses k q) g e =
      let d : catalogue_read doc ≡ refuses n p = cc in
      Page.OfRun.of_catalogue ps h (catalogue_four doc n p d, d)
  run_from (reads ps) h (reads c) g e =
      work_from (record { placed = ps; plan_reads = h; catalogue = c; doc_reads = g }) _ refl e

  run_to : OfRun bytes doc lent n p → (run_call bytes doc lent).answer ≡ refused n p
  unfolding run_call run_outcome reading refusal ended
  run_to (of_plan a h) = rw h refl
  run_to (Page.OfRun.of_catalogue ps h k) = rw (h, k.1) refl
  run_to (Page.OfRun.no_room i h a) =
      answer_of_lem (run_at i lent) ∙ ap (λ (w : Work Filled). (ended (ran lent) lent (reads w)).answer) h
      ∙ ap (λ (k : ℕ). refused k p) (sym a)
  run_to (Page.OfRun.failing i h a) =
      answer_of_lem (run_at i lent) ∙ ap (λ (w : Work Filled). (ended (ran lent) lent (reads w)).answer) h
      ∙ ap (λ (k : ℕ). refused k p) (sym a)

pub run_whence : (bytes doc : List ℕ) (lent : ℕ) → Refuses (run_call bytes doc lent).answer (OfRun bytes doc lent)
unfolding run_call
run_whence bytes doc lent =
    record { comes_from = λ n p e. run_from bytes doc lent n p _ refl _ refl e; leads_to = run_to bytes doc lent }

-- The evaluator

module _ (query doc : List ℕ) (lent n p : ℕ) where
  evaluation_from : (i : Passed query doc) (w : Work Standing) → evaluation i lent ≡ w
      → (evaluate_outcome lent (reads w)).answer ≡ refused n p → OfEvaluation query doc lent n p
  unfolding evaluate_outcome refusal
  evaluation_from i (full q) h e = Page.OfEvaluation.no_room i (cc) (cc)
  evaluation_from i (failed q) h e = Page.OfEvaluation.failing i (cc) (cc)
  evaluation_from i (done s) h e = gives_refused _ n p e

  evaluate_from : (a : Reading Read) → query_read query ≡ a → (b : Reading Catalogue) → catalogue_read doc ≡ b
      → (evaluate_outcome lent
      (reading a (λ r. reading b (λ c. reads (evaluate (world_of c) (room lent) (λ v. []) r.tree))))).answer
      ≡ refused n p
      → OfEvaluation query doc lent n p
  unfolding evaluate_outcome reading refusal
  evaluate_from (refuses k q) h b g e =
      let d : query_read query ≡ refuses n p = cc in
      let t = query_three query n p d in
      Page.OfEvaluation.of_query (t.0, t.1, d)
  evaluate_from (reads r) h (refuses k q) g e =
      let d : catalogue_read doc ≡ refuses n p = cc in
      Page.OfEvaluation.of_catalogue r h (catalogue_four doc n p d, d)
  evaluate_from (reads r) h (reads c) g e =
      evaluation_from (record { read = r; query_reads = h; catalogue = c; doc_reads = g }) _ refl e

  evaluate_to : OfEvaluation query doc lent n p → (evaluate_call query doc lent).answer ≡ refused n p
  unfolding evaluate_call evaluate_outcome reading refusal ended
  evaluate_to (Page.OfEvaluation.of_query h) = rw h.2 refl
  evaluate_to (Page.OfEvaluation.of_catalogue r h k) = rw (h, k.1) refl
  evaluate_to (Page.OfEvaluation.no_room i h a) =
      answer_of_lem (evaluate_at i lent) ∙ ap (λ (w : Work Standing). (ended (evaluated lent) lent (reads w)).answer) h
      ∙ ap (λ (k : ℕ). refused k p) (sym a)
  evaluate_to (Page.OfEvaluation.failing i h a) =
      answer_of_lem (evaluate_at i lent) ∙ ap (λ (w : Work Standing). (ended (evaluated lent) lent (reads w)).answer) h
      ∙ ap (λ (k : ℕ). refused k p) (sym a)

pub evaluate_whence : (query doc : List ℕ) (lent : ℕ)
    → Refuses (evaluate_call query doc lent).answer (OfEvaluation query doc lent)
unfolding evaluate_call
evaluate_whence query doc lent =
    record {
      comes_from = λ n p e. evaluate_from query doc lent n p _ refl _ refl e;
      leads_to = evaluate_to query doc lent;
    }
