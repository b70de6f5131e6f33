-- Demand 3: the run of a query's written plan and the evaluation of the query agree, in any room.
--     plan_passed      what the translator leaves passes the plan's check, with the operators of the query's plan
--     engines_agree    if neither answers 6, both answer 7, or both give the items that the query means
--     agree_in_hand    .. of the answers and cells in hand
use Prim.Native.Nat.{ℕ, ◌-◌, ◌*◌}
use mathlib.Core.Path.{◌≡◌, refl, sym, ap, ap₂, ◌∙◌, subst, subst₂}
use mathlib.Core.List.{List, [], ◌∷◌, map}
use native.Mathlib.Omega.{arith}
use lib.IntN.{ℤ, pos}
use lib.ListN.{length, take, length-map}
use Rattle.laws.specs.Rows.{rows_at}
use Rattle.laws.specs.Attempt.{Attempt, fails, Reading, refuses, reads, Work}
use Rattle.laws.specs.Attempt as Attempt
use Rattle.meaning.specs.Catalogue.{Catalogue, catalogue_read}
use Rattle.meaning.specs.World.{world_of}
use Rattle.meaning.specs.Query.{Query, Read}
use Rattle.meaning.specs.Counted.{Standing}
use Rattle.meaning.specs.Plan.{Placed, plan_read}
use Rattle.meaning.specs.Operators.{Row, Table, cell, column}
use Rattle.meaning.specs.Run.{run, Filled}
use Rattle.meaning.specs.Translation.{plan}
use Rattle.meaning.specs.Calls.{Answer, gives, Outcome, refusal, room, catalogue_answer, catalogue_call}
use Rattle.meaning.specs.Calls.{translate_call, last_table, run_call, evaluate_call}
use Rattle.laws.proofs.Outcomes.{fails_gives, gives_same, reads_same}
use Rattle.theorems.proofs.Counted.{evaluate_done, evaluate_failed, running_done, running_failed}
use Rattle.theorems.proofs.PlanRead.{query_plan_back, translated}
use Rattle.theorems.specs.PlanRead.{TranslatedPlan}
use Rattle.agreement.specs.Machine as Machine
use Rattle.agreement.specs.Machine.{SameRun}
use Rattle.agreement.specs.Passing.{Passed, PlanPassed, means, evaluation, makes, the_run, Refused, StoodTables}
use Rattle.cells.specs.Bytes.{Bytes}
use Rattle.agreement.specs.Passing.{items_at, Alike, both_fail, both_give, HeldOutcome}
use Rattle.agreement.proofs.MachineAgreement.{same_run_read}
use Rattle.agreement.proofs.EngineCalls.{evaluated_plain, ran_plain}
use Rattle.agreement.specs.EngineCalls.{ended, evaluated, ran, Settled, failing, finished}
use Rattle.agreement.proofs.EngineCalls.{settles, gives_refused, take_padded}
use Rattle.agreement.proofs.Answers.{evaluate_at, evaluate_is, run_at, run_is}
use Rattle.agreement.proofs.Answers.{laid_stood, answer_of_lem}

-- the plan's bytes, and a catalogue that passes its check
record ReadBack (q : Query) (bytes doc : List ℕ) (c : Catalogue) : Type 0 where
  passed : PlanPassed bytes doc
  operators : map (λ (p : Placed). p.op) passed.placed ≡ plan q
  catalogue : passed.catalogue ≡ c

plan_passed : (query doc : List ℕ) → Bytes query → (i : Passed query doc) (lent n m : ℕ)
    → (translate_call query lent).answer ≡ gives (n ∷ m ∷ [])
    → ReadBack i.read.tree (take m (translate_call query lent).left) doc i.catalogue
plan_passed query doc bytes i lent n m e =
    let t : TranslatedPlan query lent n m = translated query lent n m e in
    let same : t.read ≡ i.read = reads_same (sym t.accepted ∙ i.query_reads) in
    let (ps, back) =
    query_plan_back query t.read bytes t.accepted (omega (arith, t.operators, t.within)) in
    record {
      passed =
          record {
            placed = ps;
            plan_reads = ap plan_read t.bytes ∙ back.back;
            catalogue = i.catalogue;
            doc_reads = i.doc_reads;
          };
      operators = back.ops ∙ ap (λ (r : Read). plan r.tree) same;
      catalogue = refl;
    }

-- Each engine by itself, where it does not answer 6

-- a run, and an evaluation, that give items xs
record RunGave (xs : List ℤ) (o : Outcome ℤ) : Type 0 where
  start : ℕ
  filled : ℕ
  answers : o.answer ≡ gives (start ∷ length xs ∷ filled ∷ [])
  items : items_at o.left start (length xs) ≡ xs

record EvaluationGave (xs : List ℤ) (o : Outcome ℤ) : Type 0 where
  count : ℕ
  answers : o.answer ≡ gives (length xs ∷ count ∷ [])
  items : take (length xs) o.left ≡ xs

ran_gave : (lent : ℕ) (f : Filled) (xs : List ℤ) → column (last_table f.tables) 2 ≡ xs
    → StoodTables f.tables lent (ran lent f).left (f.filled - length (last_table f.tables) * 3)
    (length (last_table f.tables)) f.filled
    → RunGave xs (ran lent f)
unfolding ran column items_at
ran_gave lent f xs k s =
    let rows : length (last_table f.tables) ≡ length xs =
    sym (length-map (last_table f.tables) (λ (r : Row). cell r 2)) ∙ ap length k in
    record {
      start = f.filled - length (last_table f.tables) * 3;
      filled = f.filled;
      answers = ap (λ (n : ℕ). gives ((f.filled - length (last_table f.tables) * 3) ∷ n ∷ f.filled ∷ [])) rows;
      items =
          ap
          (λ (n : ℕ).
          map (λ (r : Row). cell r 2)
          (rows_at (ran lent f).left (f.filled - length (last_table f.tables) * 3) n 3)) (sym rows)
          ∙ ap (map (λ (r : Row). cell r 2)) s.last
          ∙ k;
    }

module _ {bytes doc : List ℕ} (i : PlanPassed bytes doc) (lent : ℕ)
    (not-six : ¬ (Refused 6 (run_call bytes doc lent).answer)) where
  pub run_settled : Settled (the_run i lent)
  run_settled =
      settles (ran lent) (ran_plain lent) lent (the_run i lent)
      (subst (λ (o : Outcome ℤ). ¬ (Refused 6 o.answer)) (run_at i lent) not-six)

  pub run_seven : makes i ≡ fails → Refused 7 (run_call bytes doc lent).answer
  unfolding ended refusal
  run_seven e = go run_settled
    where
      go : Settled (the_run i lent) → Refused 7 (run_call bytes doc lent).answer
      go (failing p d) =
          (p, answer_of_lem (run_at i lent ∙ ap (λ (m : Work Filled). ended (ran lent) lent (reads m)) d))
      go (finished f d) =
          absurd
          (fails_gives f.tables
          (sym e ∙ running_done (world_of i.catalogue) (room lent) i.placed [] 0 f d))

  run_gave : (ts : List Table) (xs : List ℤ) → makes i ≡ Attempt.gives ts → column (last_table ts) 2 ≡ xs
      → RunGave xs (run_call bytes doc lent)
  run_gave ts xs e k = go run_settled
    where
      go : Settled (the_run i lent) → RunGave xs (run_call bytes doc lent)
      go (failing p d) =
          absurd
          (fails_gives ts
          (sym (running_failed (world_of i.catalogue) (room lent) i.placed [] 0 p d) ∙ e))
      go (finished f d) =
          let same : f.tables ≡ ts =
          gives_same (sym (running_done (world_of i.catalogue) (room lent) i.placed [] 0 f d) ∙ e) in
          subst (RunGave xs) (sym (run_is i lent f d))
          (ran_gave lent f xs (ap (λ (us : List Table). column (last_table us) 2) same ∙ k)
          (laid_stood bytes i.placed (world_of i.catalogue) lent f i.plan_reads d))

evaluated_gave : (lent : ℕ) (s : Standing) → EvaluationGave s.items (evaluated lent s)
unfolding evaluated
evaluated_gave lent s =
    record { count = s.count; answers = refl; items = take_padded (pos 0) lent s.items _ refl }

module _ {query doc : List ℕ} (i : Passed query doc) (lent : ℕ)
    (not-six : ¬ (Refused 6 (evaluate_call query doc lent).answer)) where
  pub evaluation_settled : Settled (evaluation i lent)
  evaluation_settled =
      settles (evaluated lent) (evaluated_plain lent) lent (evaluation i lent)
      (subst (λ (o : Outcome ℤ). ¬ (Refused 6 o.answer)) (evaluate_at i lent) not-six)

  pub evaluation_seven : means i ≡ fails → Refused 7 (evaluate_call query doc lent).answer
  unfolding ended refusal
  evaluation_seven e = go evaluation_settled
    where
      go : Settled (evaluation i lent) → Refused 7 (evaluate_call query doc lent).answer
      go (failing p d) =
          (p, answer_of_lem (evaluate_at i lent ∙ ap (λ (m : Work Standing). ended (evaluated lent) lent (reads m)) d))
      go (finished s d) =
          absurd
          (fails_gives s.items
          (sym e ∙ evaluate_done (world_of i.catalogue) (room lent) (λ v. []) i.read.tree s d))

  evaluation_gave : (xs : List ℤ) → means i ≡ Attempt.gives xs → EvaluationGave xs (evaluate_call query doc lent)
  evaluation_gave xs e = go evaluation_settled
    where
      go : Settled (evaluation i lent) → EvaluationGave xs (evaluate_call query doc lent)
      go (failing p d) =
          absurd
          (fails_gives xs
          (sym (evaluate_failed (world_of i.catalogue) (room lent) (λ v. []) i.read.tree p d) ∙ e))
      go (finished s d) =
          let same : s.items ≡ xs =
          gives_same (sym (evaluate_done (world_of i.catalogue) (room lent) (λ v. []) i.read.tree s d) ∙ e) in
          subst (λ (ys : List ℤ). EvaluationGave ys (evaluate_call query doc lent)) same
          (subst (EvaluationGave s.items) (sym (evaluate_is i lent s d)) (evaluated_gave lent s))

-- Both

pub engines_agree :
    (query doc : List ℕ) → Bytes query → (i : Passed query doc) (lent forRun forEvaluation n m : ℕ)
    → (translate_call query lent).answer ≡ gives (n ∷ m ∷ [])
    → ¬ (Refused 6 (run_call (take m (translate_call query lent).left) doc forRun).answer)
    → ¬ (Refused 6 (evaluate_call query doc forEvaluation).answer)
    → Alike (means i) (run_call (take m (translate_call query lent).left) doc forRun)
    (evaluate_call query doc forEvaluation)
engines_agree query doc bytes i lent a b n m e not-run not-evaluation =
    go (same_run_read i.catalogue query i.read i.query_reads)
  where
    back : ReadBack i.read.tree (take m (translate_call query lent).left) doc i.catalogue
    back = plan_passed query doc bytes i lent n m e

    ran_plan : makes back.passed ≡ run (world_of i.catalogue) (plan i.read.tree) []
    ran_plan = ap₂ (λ c os. run (world_of c) os []) back.catalogue back.operators

    go : SameRun (world_of i.catalogue) i.read.tree
        → Alike (means i) (run_call (take m (translate_call query lent).left) doc a) (evaluate_call query doc b)
    go (Machine.both_fail broken bad) =
        both_fail bad (run_seven back.passed a not-run (ran_plan ∙ broken)) (evaluation_seven i b not-evaluation bad)
    go (Machine.both_give xs ts runs last given) =
        let r : RunGave xs (run_call (take m (translate_call query lent).left) doc a) =
        run_gave back.passed a not-run ts xs (ran_plan ∙ runs) last in
        let s : EvaluationGave xs (evaluate_call query doc b) = evaluation_gave i b not-evaluation xs given in
        both_give xs r.start r.filled s.count given r.answers s.answers r.items s.items

-- The answers and cells in hand

held_is : {A : Type 0} (o : Outcome A) (a : Answer) (xs : List A) → HeldOutcome o a xs
    → record { answer = a; left = xs } ≡ o
held_is o a xs h = λ j. record { answer = h.answers j; left = h.leaves j }

catalogue_passed : (rows : ℕ) (m : Reading Catalogue) → catalogue_answer m ≡ gives (rows ∷ [])
    → (c : Catalogue) × (m ≡ reads c)
unfolding catalogue_answer
catalogue_passed rows (refuses n p) e = gives_refused (rows ∷ []) n p (sym e)
catalogue_passed rows (reads c) e = (c, refl)

pub agree_in_hand :
    (query doc bytes : List ℕ) (cells items : List ℤ) (t k r e : Answer) (lent forRun forEvaluation n m rows : ℕ)
    → Bytes query
    → HeldOutcome (translate_call query lent) t bytes → t ≡ gives (n ∷ m ∷ [])
    → k ≡ catalogue_call doc → k ≡ gives (rows ∷ [])
    → HeldOutcome (run_call (take m bytes) doc forRun) r cells → ¬ (Refused 6 r)
    → HeldOutcome (evaluate_call query doc forEvaluation) e items → ¬ (Refused 6 e)
    → (i : Passed query doc)
    × Alike (means i) (record { answer = r; left = cells }) (record { answer = e; left = items })
unfolding catalogue_call
agree_in_hand query doc bytes cells items t k r e lent a b n m rows small ht ot hk ok hr not-run he not-evaluation =
    let told : (translate_call query lent).answer ≡ gives (n ∷ m ∷ []) = sym ht.answers ∙ ot in
    let passed : TranslatedPlan query lent n m = translated query lent n m told in
    let (c, sound) = catalogue_passed rows (catalogue_read doc) (sym hk ∙ ok) in
    let i : Passed query doc =
    record { read = passed.read; query_reads = passed.accepted; catalogue = c; doc_reads = sound } in
    let ours : record { answer = r; left = cells } ≡ run_call (take m (translate_call query lent).left) doc a =
    held_is _ r cells hr ∙ ap (λ (bs : List ℕ). run_call (take m bs) doc a) ht.leaves in
    let theirs : record { answer = e; left = items } ≡ evaluate_call query doc b = held_is _ e items he in (
      i,
      subst₂ (Alike (means i)) (sym ours) (sym theirs)
          (engines_agree query doc small i lent a b n m told
          (λ s. not-run (s.0, answer_of_lem ours ∙ s.1))
          (λ s. not-evaluation (s.0, answer_of_lem theirs ∙ s.1))),
    )
