-- What an answer of the calls says (demands 1 and 2): of the lent slice, and of the definitions without room.
--     evaluate_at, run_at      the calls on input that passes its checks
--     evaluate_is, run_is      .. where the work is done
--     last_three               the last table of a sound plan has width 3
--     room_lent, found_same    no more cells count than are lent; what was read, as it was read
--     plan_long                a plan that is given fits the lent bytes
--     laid_stood               where a run is done, its tables stand end to end, the last one where the answer says
--     evaluate_cleared, run_cleared, translate_cleared     as much is left as was lent, all zeros where a call refuses
--     run_stood, evaluate_items, translate_written         what an answer of values says
--     translate_enough         a plan of at most 512 operators is given where enough bytes are lent
--     run_failing, evaluate_failing                        what answer 7 says
use Prim.Native.Nat.{ℕ, ◌-◌, ◌*◌, ◌≤◌}
use mathlib.Core.Path.{◌≡◌, refl, sym, ap, ◌∙◌, subst, subst₃}
use mathlib.Core.List.{List, [], ◌∷◌, ◌++◌, append_assoc}
use mathlib.Core.Bool.{true}
use native.Mathlib.Omega.{arith}
use borrow.Author.Tests.{leb-true, le-leb}
use lib.Dec.{leb}
use lib.IntN.{ℤ, pos}
use lib.ListN.{length, replicate, length-append, length-replicate}
use Rattle.laws.specs.Lists.{gather}
use Rattle.laws.specs.Attempt.{fails, Reading, refuses, reads, reading, unless, Work, done, Found}
use Rattle.laws.specs.Attempt as Attempt
use Rattle.meaning.specs.Catalogue.{catalogue_read}
use Rattle.meaning.specs.World.{World, world_of}
use Rattle.meaning.specs.Query.{Query, Read, query_read}
use Rattle.meaning.specs.Counted.{Standing, evaluate}
use Rattle.meaning.specs.Plan.{Op, Placed, plan_read}
use Rattle.meaning.specs.Operators.{Table}
use Rattle.meaning.specs.Run.{Filled, running}
use Rattle.meaning.specs.Translation.{plan}
use Rattle.meaning.specs.Written.{written}
use Rattle.meaning.specs.Calls.{gives, refused, Outcome, refusal, room, plan_of, translate_outcome}
use Rattle.laws.specs.Rows.{padded, flat}
use Rattle.meaning.specs.Calls.{translate_call, last_table, run_call, evaluate_call}
use Rattle.laws.proofs.Outcomes.{reads_same, found_reads, found_unless, found_reading}
use Rattle.theorems.proofs.Counts.{counts}
use Rattle.theorems.proofs.Counted.{evaluate_done, evaluate_failed, running_done, running_failed, running_fits}
use Rattle.agreement.specs.Passing.{Passed, PlanPassed, means, evaluation, makes, the_run, Refused, Cleared}
use Rattle.agreement.specs.Passing.{StoodTables}
use Rattle.agreement.proofs.RowWidths.{read_sound, flat_wide, flat_last}
use Rattle.theorems.specs.PlanRead.{widths_of}
use Rattle.agreement.specs.RowWidths.{RowsOf, Widths, LastThree, TablesLaid}
use Rattle.agreement.proofs.RowWidths.{last_wide, running_laid}
use Rattle.agreement.proofs.EngineCalls.{evaluate_ended, run_ended, gives_refused}
use Rattle.agreement.specs.EngineCalls.{ended, evaluated, ran}
use Rattle.agreement.proofs.EngineCalls.{evaluated_plain, ran_plain, ended_zeroed, ended_long, ended_seven}
use Rattle.agreement.proofs.EngineCalls.{ended_gives, length_padded, rows_flat}

-- On input that passes its checks

module _ {query doc : List ℕ} (i : Passed query doc) (lent : ℕ) where
  pub evaluate_at : evaluate_call query doc lent ≡ ended (evaluated lent) lent (reads (evaluation i lent))
  unfolding evaluate_call reading
  evaluate_at = rw (i.query_reads, i.doc_reads) (evaluate_ended lent (reads (evaluation i lent)))

module _ {bytes doc : List ℕ} (i : PlanPassed bytes doc) (lent : ℕ) where
  pub run_at : run_call bytes doc lent ≡ ended (ran lent) lent (reads (the_run i lent))
  unfolding run_call reading
  run_at = rw (i.plan_reads, i.doc_reads) (run_ended lent (reads (the_run i lent)))

-- .. where the work is done
module _ {query doc : List ℕ} (i : Passed query doc) (lent : ℕ) where
  pub evaluate_is : (s : Standing) → evaluation i lent ≡ done s → evaluate_call query doc lent ≡ evaluated lent s
  unfolding ended
  evaluate_is s d = evaluate_at i lent ∙ ap (λ (m : Work Standing). ended (evaluated lent) lent (reads m)) d

module _ {bytes doc : List ℕ} (i : PlanPassed bytes doc) (lent : ℕ) where
  pub run_is : (f : Filled) → the_run i lent ≡ done f → run_call bytes doc lent ≡ ran lent f
  unfolding ended
  run_is f d = run_at i lent ∙ ap (λ (m : Work Filled). ended (ran lent) lent (reads m)) d

-- Where a run is done

pub last_three : (ps : List Placed) (ts : List Table) → LastThree ps → Widths (widths_of ps) ts → RowsOf 3 (last_table ts)
last_three [] ts l h = absurd l
last_three (p ∷ ps) ts l h = subst (λ (w : ℕ). RowsOf w (last_table ts)) l (last_wide p ps ts h)

pub laid_stood : (bytes : List ℕ) (ps : List Placed) (w : World) (lent : ℕ) (f : Filled) → plan_read bytes ≡ reads ps
    → running w (room lent) ps [] 0 ≡ done f
    → StoodTables f.tables lent (ran lent f).left (f.filled - length (last_table f.tables) * 3)
    (length (last_table f.tables)) f.filled
unfolding ran padded
laid_stood bytes ps w lent f e d =
    let (sound, three) = read_sound bytes ps e in
    let laid : TablesLaid (widths_of ps) f = running_laid w (room lent) ps f sound d in
    let last : Table = last_table f.tables in
    let wide : RowsOf 3 last = last_three ps f.tables three laid.widths in
    let (front, split) = flat_last f.tables in
    let zeros : List ℤ = replicate (lent - length (gather flat f.tables)) (pos 0) in
    record {
      cells = refl;
      count = laid.cells;
      begins = refl;
      last =
          rows_flat front last zeros _ 3 _
          (omega
          (arith, laid.cells, ap length split, length-append front (flat last), flat_wide last 3 wide))
          wide
          (ap (λ (xs : List ℤ). xs ++ zeros) split ∙ append_assoc front (flat last) zeros);
    }

-- Demand 1

pub room_lent : (lent : ℕ) → room lent ≤ lent
unfolding room
room_lent lent = omega arith

-- .. what was read, as it was read
pub found_same : {A : Type 0} (m : Reading A) → Found (λ x. m ≡ reads x) m
found_same m = record { found = λ x e. e }

evaluated_long : (lent : ℕ) (w : World) (q : Query) (s : Standing) → evaluate w (room lent) (λ v. []) q ≡ done s
    → length (evaluated lent s).left ≡ lent
unfolding evaluated
evaluated_long lent w q s d =
    let (few, fit) = counts w (room lent) (λ v. []) q s d in
    length_padded (pos 0) lent s.items (omega (arith, room_lent lent))

pub evaluate_cleared : (query doc : List ℕ) → Cleared (pos 0) (evaluate_call query doc)
unfolding evaluate_call
evaluate_cleared query doc =
    record {
      long = λ lent.
          ap (λ (o : Outcome ℤ). length o.left) (evaluate_ended lent _)
          ∙ ended_long (evaluated lent) (evaluated_plain lent) lent _
          (found_reading (found_same (query_read query))
          (λ r a. found_reading (found_same (catalogue_read doc))
          (λ c b. found_reads (λ s d. evaluated_long lent (world_of c) r.tree s d))));
      zeroed = λ lent n p e.
          ap (λ (o : Outcome ℤ). o.left) (evaluate_ended lent _)
          ∙ ended_zeroed (evaluated lent) (evaluated_plain lent) lent _ n p
          (sym (ap (λ (o : Outcome ℤ). o.answer) (evaluate_ended lent _)) ∙ e);
    }

ran_long : (bytes : List ℕ) (ps : List Placed) (lent : ℕ) (w : World) (f : Filled) → plan_read bytes ≡ reads ps
    → running w (room lent) ps [] 0 ≡ done f → length (ran lent f).left ≡ lent
unfolding ran
ran_long bytes ps lent w f e d =
    let laid : TablesLaid (widths_of ps) f = running_laid w (room lent) ps f (read_sound bytes ps e).0 d in
    length_padded (pos 0) lent (gather flat f.tables)
    (omega (arith, laid.cells, running_fits w (room lent) ps [] 0 f (omega arith) d, room_lent lent))

pub run_cleared : (bytes doc : List ℕ) → Cleared (pos 0) (run_call bytes doc)
unfolding run_call
run_cleared bytes doc =
    record {
      long = λ lent.
          ap (λ (o : Outcome ℤ). length o.left) (run_ended lent _)
          ∙ ended_long (ran lent) (ran_plain lent) lent _
          (found_reading (found_same (plan_read bytes))
          (λ ps a. found_reading (found_same (catalogue_read doc))
          (λ c b. found_reads (λ f d. ran_long bytes ps lent (world_of c) f a d))));
      zeroed = λ lent n p e.
          ap (λ (o : Outcome ℤ). o.left) (run_ended lent _)
          ∙ ended_zeroed (ran lent) (ran_plain lent) lent _ n p
          (sym (ap (λ (o : Outcome ℤ). o.answer) (run_ended lent _)) ∙ e);
    }

pub plan_long : (lent : ℕ) (q : Query) → Found (λ os. length (written os) ≤ lent) (plan_of lent q)
unfolding plan_of
plan_long lent q =
    found_unless (leb (length (plan q)) 512) 2 0
    (λ _. found_unless (leb (length (written (plan q))) lent) 8 0 (λ t. found_reads (leb-true _ lent t)))

translate_long : (lent : ℕ) (m : Reading (List Op)) → Found (λ os. length (written os) ≤ lent) m
    → length (translate_outcome lent m).left ≡ lent
unfolding translate_outcome refusal
translate_long lent (refuses n p) h = length-replicate lent 0
translate_long lent (reads os) h = length_padded 0 lent (written os) (h.found os refl)

translate_zeroed : (lent : ℕ) (m : Reading (List Op)) (n p : ℕ) → (translate_outcome lent m).answer ≡ refused n p
    → (translate_outcome lent m).left ≡ replicate lent 0
unfolding translate_outcome refusal
translate_zeroed lent (refuses k q) n p e = refl
translate_zeroed lent (reads os) n p e = gives_refused _ n p e

pub translate_cleared : (query : List ℕ) → Cleared 0 (translate_call query)
unfolding translate_call
translate_cleared query =
    record {
      long = λ lent.
          translate_long lent _ (found_reading (found_same (query_read query)) (λ r a. plan_long lent r.tree));
      zeroed = λ lent n p e. translate_zeroed lent _ n p e;
    }

-- Demand 2

pub answer_of_lem : {o p : Outcome ℤ} → o ≡ p → o.answer ≡ p.answer
answer_of_lem e = ap (λ (o : Outcome ℤ). o.answer) e

-- by the numbers of the answer, and in the cells of the call
stood_as : {left : List ℤ} (lent : ℕ) (f : Filled) (start rows filled : ℕ)
    → (ran lent f).answer ≡ gives (start ∷ rows ∷ filled ∷ []) → (ran lent f).left ≡ left
    → StoodTables f.tables lent (ran lent f).left (f.filled - length (last_table f.tables) * 3)
    (length (last_table f.tables)) f.filled
    → StoodTables f.tables lent left start rows filled
unfolding ran
stood_as lent f start rows filled a e s =
    let r : length (last_table f.tables) ≡ rows = cc in
    let n : f.filled ≡ filled = cc in
    let p : f.filled - length (last_table f.tables) * 3 ≡ start = cc in
    subst (λ (xs : List ℤ). StoodTables f.tables lent xs start rows filled) e
    (subst₃ (λ (x y z : ℕ). StoodTables f.tables lent (ran lent f).left x y z) p r n s)

module _ (bytes doc : List ℕ) (i : PlanPassed bytes doc) (lent : ℕ) where
  pub run_stood : (start rows filled : ℕ) → (run_call bytes doc lent).answer ≡ gives (start ∷ rows ∷ filled ∷ [])
      → (ts : List Table) × (makes i ≡ Attempt.gives ts)
      × StoodTables ts lent (run_call bytes doc lent).left start rows filled
  run_stood start rows filled e =
      let (f, d, a) =
      ended_gives (ran lent) (ran_plain lent) lent (the_run i lent) _ (sym (answer_of_lem (run_at i lent)) ∙ e)
      in (
        f.tables,
        running_done (world_of i.catalogue) (room lent) i.placed [] 0 f d,
        stood_as lent f start rows filled a (sym (ap (λ (o : Outcome ℤ). o.left) (run_is i lent f d)))
            (laid_stood bytes i.placed (world_of i.catalogue) lent f i.plan_reads d),
      )

  pub run_failing : Refused 7 (run_call bytes doc lent).answer → makes i ≡ fails
  run_failing h =
      let (p, d) =
      ended_seven (ran lent) (ran_plain lent) lent (the_run i lent)
      (subst (λ (o : Outcome ℤ). Refused 7 o.answer) (run_at i lent) h) in
      running_failed (world_of i.catalogue) (room lent) i.placed [] 0 p d

module _ (query doc : List ℕ) (i : Passed query doc) (lent : ℕ) where
  pub evaluate_items : (n k : ℕ) → (evaluate_call query doc lent).answer ≡ gives (n ∷ k ∷ [])
      → (items : List ℤ) × (means i ≡ Attempt.gives items) × (n ≡ length items)
      × ((evaluate_call query doc lent).left ≡ padded (pos 0) lent items)
  unfolding evaluated
  evaluate_items n k e =
      let (s, d, a) =
      ended_gives (evaluated lent) (evaluated_plain lent) lent (evaluation i lent) _
      (sym (answer_of_lem (evaluate_at i lent)) ∙ e) in
      let p : length s.items ≡ n = cc in (
        s.items,
        evaluate_done (world_of i.catalogue) (room lent) (λ v. []) i.read.tree s d,
        sym p,
        ap (λ (o : Outcome ℤ). o.left) (evaluate_is i lent s d),
      )

  pub evaluate_failing : Refused 7 (evaluate_call query doc lent).answer → means i ≡ fails
  evaluate_failing h =
      let (p, d) =
      ended_seven (evaluated lent) (evaluated_plain lent) lent (evaluation i lent)
      (subst (λ (o : Outcome ℤ). Refused 7 o.answer) (evaluate_at i lent) h) in
      evaluate_failed (world_of i.catalogue) (room lent) (λ v. []) i.read.tree p d

plan_found : (lent : ℕ) (q : Query) → Found (λ os. os ≡ plan q) (plan_of lent q)
unfolding plan_of
plan_found lent q = found_unless _ 2 0 (λ _. found_unless _ 8 0 (λ _. found_reads refl))

outcome_written : (lent n m : ℕ) (q : Query) (a : Reading (List Op)) → Found (λ os. os ≡ plan q) a
    → (translate_outcome lent a).answer ≡ gives (n ∷ m ∷ [])
    → (n ≡ length (plan q)) × (m ≡ length (written (plan q)))
    × ((translate_outcome lent a).left ≡ padded 0 lent (written (plan q)))
unfolding translate_outcome refusal
outcome_written lent n m q (refuses k p) h e = gives_refused _ k p (sym e)
outcome_written lent n m q (reads os) h e =
    let same : os ≡ plan q = h.found os refl in
    let operators : length os ≡ n = cc in
    let bytes : length (written os) ≡ m = cc in (
      sym operators ∙ ap length same,
      sym bytes ∙ ap (λ (ps : List Op). length (written ps)) same,
      ap (λ (ps : List Op). padded 0 lent (written ps)) same,
    )

pub translate_written : (query : List ℕ) (r : Read) → query_read query ≡ reads r → (lent n m : ℕ)
    → (translate_call query lent).answer ≡ gives (n ∷ m ∷ [])
    → (n ≡ length (plan r.tree)) × (m ≡ length (written (plan r.tree)))
    × ((translate_call query lent).left ≡ padded 0 lent (written (plan r.tree)))
unfolding translate_call
translate_written query r a lent n m e =
    outcome_written lent n m r.tree _
    (found_reading (found_same (query_read query))
    (λ r' b. subst (λ (x : Read). Found (λ os. os ≡ plan r.tree) (plan_of lent x.tree)) (reads_same (sym a ∙ b))
    (plan_found lent r.tree))) e

pub translate_enough : (query : List ℕ) (r : Read) → query_read query ≡ reads r → (lent : ℕ)
    → length (plan r.tree) ≤ 512 → length (written (plan r.tree)) ≤ lent
    → (translate_call query lent).answer ≡ gives (length (plan r.tree) ∷ length (written (plan r.tree)) ∷ [])
unfolding translate_call translate_outcome reading plan_of unless
translate_enough query r e lent few long =
    let t : leb (length (plan r.tree)) 512 ≡ true = le-leb _ 512 few in
    let u : leb (length (written (plan r.tree))) lent ≡ true = le-leb _ lent long in
    rw (e, t, u) refl
