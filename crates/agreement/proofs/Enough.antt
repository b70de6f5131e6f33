-- With enough room each engine answers by what is meant (demand 2, from the definitions to the answer).
--     run_enough, run_enough_fails              tables that are made are given; what fails is answered 7
--     evaluate_enough, evaluate_enough_fails    items that are meant are given; what fails is answered 7
use Prim.Native.Nat.{ℕ, ◌-◌, ◌*◌, ◌≤◌}
use mathlib.Core.Path.{◌≡◌, sym, ap, ap₂, ◌∙◌, subst, subst₂}
use mathlib.Core.List.{List, [], ◌∷◌}
use lib.IntN.{ℤ, pos}
use lib.ListN.{length}
use Rattle.laws.specs.Rows.{padded}
use Rattle.laws.specs.Attempt.{fails}
use Rattle.laws.specs.Attempt as Attempt
use Rattle.laws.proofs.Outcomes.{fails_gives, gives_same}
use Rattle.meaning.specs.World.{world_of}
use Rattle.meaning.specs.Operators.{Table}
use Rattle.meaning.specs.Calls.{gives, Outcome, room, last_table, run_call, evaluate_call}
use Rattle.theorems.proofs.Counted.{evaluate_done, evaluate_failed, running_done, running_failed}
use Rattle.agreement.specs.Passing.{Passed, PlanPassed, means, stands, evaluation, makes, fills, the_run, Refused}
use Rattle.agreement.specs.Passing.{StoodTables}
use Rattle.agreement.proofs.Room.{standing_count, filling_filled}
use Rattle.agreement.specs.EngineCalls.{evaluated, ran, Settled, failing, finished}
use Rattle.agreement.proofs.Answers.{evaluate_is, run_is, laid_stood, answer_of_lem}
use Rattle.agreement.proofs.SixBelow.{run_six, evaluate_six}
use Rattle.agreement.proofs.EnginesAgree.{run_settled, run_seven, evaluation_settled, evaluation_seven}

module _ (bytes doc : List ℕ) (i : PlanPassed bytes doc) (lent : ℕ) (enough : fills i ≤ room lent) where
  run_not_six : ¬ (Refused 6 (run_call bytes doc lent).answer)
  run_not_six = (run_six bytes doc i).enough lent enough

  -- tables us, and k cells filled, are answered and stand
  abbrev TablesGiven : List Table → ℕ → Type 0
  TablesGiven us k =
      ((run_call bytes doc lent).answer
      ≡ gives ((k - length (last_table us) * 3) ∷ length (last_table us) ∷ k ∷ []))
      × StoodTables us lent (run_call bytes doc lent).left (k - length (last_table us) * 3) (length (last_table us)) k

  pub run_enough : (ts : List Table) → makes i ≡ Attempt.gives ts → TablesGiven ts (fills i)
  unfolding ran
  run_enough ts e = go (run_settled i lent run_not_six)
    where
      go : Settled (the_run i lent) → TablesGiven ts (fills i)
      go (failing p d) =
          absurd
          (fails_gives ts (sym (running_failed (world_of i.catalogue) (room lent) i.placed [] 0 p d) ∙ e))
      go (finished f d) =
          let same : f.tables ≡ ts =
          gives_same (sym (running_done (world_of i.catalogue) (room lent) i.placed [] 0 f d) ∙ e) in
          let filled : f.filled ≡ fills i =
          sym (filling_filled (world_of i.catalogue) (room lent) i.placed f d) in
          let is : run_call bytes doc lent ≡ ran lent f = run_is i lent f d in
          subst₂ TablesGiven same filled (
            answer_of_lem is,
            subst
                (λ (xs : List ℤ).
                StoodTables f.tables lent xs (f.filled - length (last_table f.tables) * 3)
                (length (last_table f.tables)) f.filled)
                (sym (ap (λ (o : Outcome ℤ). o.left) is))
                (laid_stood bytes i.placed (world_of i.catalogue) lent f i.plan_reads d),
          )

  pub run_enough_fails : makes i ≡ fails → Refused 7 (run_call bytes doc lent).answer
  run_enough_fails = run_seven i lent run_not_six

module _ (query doc : List ℕ) (i : Passed query doc) (lent : ℕ) (enough : stands i ≤ room lent) where
  evaluation_not_six : ¬ (Refused 6 (evaluate_call query doc lent).answer)
  evaluation_not_six = (evaluate_six query doc i).enough lent enough

  pub evaluate_enough : (items : List ℤ) → means i ≡ Attempt.gives items
      → ((evaluate_call query doc lent).answer ≡ gives (length items ∷ stands i ∷ []))
      × ((evaluate_call query doc lent).left ≡ padded (pos 0) lent items)
  unfolding evaluated
  evaluate_enough items e = go (evaluation_settled i lent evaluation_not_six)
    where
      go : Settled (evaluation i lent)
          → ((evaluate_call query doc lent).answer ≡ gives (length items ∷ stands i ∷ []))
          × ((evaluate_call query doc lent).left ≡ padded (pos 0) lent items)
      go (failing p d) =
          absurd
          (fails_gives items
          (sym (evaluate_failed (world_of i.catalogue) (room lent) (λ v. []) i.read.tree p d) ∙ e))
      go (finished s d) =
          let same : s.items ≡ items =
          gives_same (sym (evaluate_done (world_of i.catalogue) (room lent) (λ v. []) i.read.tree s d) ∙ e) in
          let count : s.count ≡ stands i =
          sym (standing_count (world_of i.catalogue) (room lent) (λ v. []) i.read.tree s d) in
          let is : evaluate_call query doc lent ≡ evaluated lent s = evaluate_is i lent s d in (
            answer_of_lem is ∙ ap₂ (λ (xs : List ℤ) (k : ℕ). gives (length xs ∷ k ∷ [])) same count,
            ap (λ (o : Outcome ℤ). o.left) is ∙ ap (padded (pos 0) lent) same,
          )

  pub evaluate_enough_fails : means i ≡ fails → Refused 7 (evaluate_call query doc lent).answer
  evaluate_enough_fails = evaluation_seven i lent evaluation_not_six
