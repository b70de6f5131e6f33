-- What the calls give stands in what they were lent.
--     run_within        the rows of the runner's last table
--     items_stand       the evaluator's items
--     plan_within       the bytes of the translator's plan
--     keep_fits         .. and there is room to keep the rows
--     write_fits        .. and to write the lines
use Prim.Native.Nat.{ℕ, ◌+◌, ◌-◌, ◌*◌, ◌≤◌}
use mathlib.Core.Path.{◌≡◌, refl, sym, ap, subst, subst₂}
use mathlib.Core.List.{List, [], ◌∷◌}
use mathlib.Core.Bool.{Bool, true, false, cond}
use lib.Dec.{eqb}
use lib.IntN.{ℤ}
use native.Mathlib.Omega.{arith}
use lib.ListN.{length, length-append}
use Rattle.laws.specs.Attempt.{Reading, refuses, reads, Work, full, failed, done, Found}
use Rattle.meaning.specs.Catalogue.{catalogue_read}
use Rattle.meaning.specs.World.{World, world_of}
use Rattle.meaning.specs.Query.{Query, query_read}
use Rattle.meaning.specs.Counted.{Standing, evaluate}
use Rattle.meaning.specs.Plan.{Op, Placed, plan_read}
use Rattle.meaning.specs.Operators.{Table}
use Rattle.meaning.specs.Run.{Filled, running}
use Rattle.meaning.specs.Written.{written}
use Rattle.meaning.specs.Calls.{Answer, gives, refused, Outcome, refusal, room, last_table, translate_outcome, run_outcome}
use Rattle.laws.specs.Rows.{flat}
use Rattle.meaning.specs.Calls.{evaluate_outcome, translate_call, run_call, evaluate_call}
use Rattle.laws.proofs.Outcomes.{found_reads, found_reading}
use Rattle.theorems.proofs.Counts.{counts}
use Rattle.theorems.proofs.Counted.{running_fits}
use Rattle.agreement.proofs.RowWidths.{read_sound, flat_wide, flat_last, running_laid}
use Rattle.theorems.specs.PlanRead.{widths_of}
use Rattle.agreement.specs.RowWidths.{TablesLaid}
use Rattle.agreement.proofs.Answers.{last_three, room_lent, found_same, plan_long}
use Rattle.verdicts.specs.Compared.{Told, GaveStands, refused_with}
use Rattle.lines.specs.Printed.{value_of, told_by}
use Rattle.lines.specs.Placed.{room_for}
use Rattle.answers.specs.Second.{second, Within}
use Rattle.answers.proofs.Keeping.{rows_stand, rows_room}

-- The runner

done_within : (bytes : List ℕ) (ps : List Placed) (w : World) (lent : ℕ) (f : Filled) → plan_read bytes ≡ reads ps
    → running w (room lent) ps [] 0 ≡ done f
    → f.filled - length (last_table f.tables) * 3 + length (last_table f.tables) * 3 ≤ lent
done_within bytes ps w lent f e d =
    let (sound, three) = read_sound bytes ps e in
    let laid : TablesLaid (widths_of ps) f = running_laid w (room lent) ps f sound d in
    let last : Table = last_table f.tables in
    let (front, split) = flat_last f.tables in
    let fits : f.filled ≤ room lent = running_fits w (room lent) ps [] 0 f (omega arith) d in
    omega (
      arith,
      fits,
      room_lent lent,
      laid.cells,
      ap length split,
      length-append front (flat last),
      flat_wide last 3 (last_three ps f.tables three laid.widths),
    )

outcome_within : (lent : ℕ) (m : Reading (Work Filled))
    → Found
    (λ k. (f : Filled) → k ≡ done f
    → f.filled - length (last_table f.tables) * 3 + length (last_table f.tables) * 3 ≤ lent) m
    → Within (run_outcome lent m).answer lent
unfolding run_outcome refusal value_of
outcome_within lent (refuses n p) h = omega arith
outcome_within lent (reads (full p)) h = omega arith
outcome_within lent (reads (failed p)) h = omega arith
outcome_within lent (reads (done f)) h = h.found (done f) refl f refl

pub run_within : (bytes doc : List ℕ) (lent : ℕ) (a : Answer) → a ≡ (run_call bytes doc lent).answer → Within a lent
unfolding run_call
run_within bytes doc lent a e =
    subst (λ (b : Answer). Within b lent) (sym e)
    (outcome_within lent _
    (found_reading (found_same (plan_read bytes))
    (λ ps k. found_reading (found_same (catalogue_read doc))
    (λ c _. found_reads (λ f d. done_within bytes ps (world_of c) lent f k d)))))

-- The evaluator

outcome_stands : (lent : ℕ) (m : Reading (Work Standing))
    → Found (λ k. (s : Standing) → k ≡ done s → length s.items ≤ lent) m
    → GaveStands lent (told_by 0 (evaluate_outcome lent m).answer)
unfolding evaluate_outcome refusal told_by
outcome_stands lent (refuses n p) h = tt
outcome_stands lent (reads (full p)) h = tt
outcome_stands lent (reads (failed p)) h = tt
outcome_stands lent (reads (done s)) h = h.found (done s) refl s refl

items_few : (lent : ℕ) (w : World) (q : Query) (s : Standing) → evaluate w (room lent) (λ v. []) q ≡ done s
    → length s.items ≤ lent
items_few lent w q s d =
    let (few, fit) = counts w (room lent) (λ v. []) q s d in
    omega (arith, room_lent lent)

pub items_stand : (query doc : List ℕ) (lent : ℕ) (a : Answer) → a ≡ (evaluate_call query doc lent).answer
    → GaveStands lent (told_by 0 a)
unfolding evaluate_call
items_stand query doc lent a e =
    subst (λ (b : Answer). GaveStands lent (told_by 0 b)) (sym e)
    (outcome_stands lent _
    (found_reading (found_same (query_read query))
    (λ r _. found_reading (found_same (catalogue_read doc))
    (λ c _. found_reads (λ s d. items_few lent (world_of c) r.tree s d)))))

-- The translator

outcome_long : (lent : ℕ) (m : Reading (List Op)) → Found (λ os. length (written os) ≤ lent) m
    → value_of 1 (translate_outcome lent m).answer ≤ lent
unfolding translate_outcome refusal value_of
outcome_long lent (refuses n p) h = omega arith
outcome_long lent (reads os) h = h.found os refl

pub plan_within : (query : List ℕ) (lent : ℕ) (a : Answer) → a ≡ (translate_call query lent).answer → value_of 1 a ≤ lent
unfolding translate_call
plan_within query lent a e =
    subst (λ (b : Answer). value_of 1 b ≤ lent) (sym e)
    (outcome_long lent _ (found_reading (found_same (query_read query)) (λ r _. plan_long lent r.tree)))

-- The lent slices, as they are handed on

pub keep_fits : (bytes doc : List ℕ) (l m k : ℕ) (a : Answer) → a ≡ (run_call bytes doc l).answer → l ≡ 8192 → m ≡ l
    → 2730 ≤ k
    → Within a m × (value_of 1 a ≤ k)
keep_fits bytes doc l m k a e h g j =
    let w = run_within bytes doc l a e in
    (omega arith, omega arith)

-- what the evaluator gave, where it was asked
second_stands : (a : Answer) (cells : List ℤ) (query doc : List ℕ)
    → GaveStands (length cells) (told_by 0 (second a cells query doc).answer)
unfolding second refused_with told_by
second_stands (gives ns) cells query doc = items_stand query doc (length cells) _ refl
second_stands (refused n p) cells query doc = by_test (eqb n 6)
  where
    by_test : (b : Bool) →
        let o : Outcome ℤ =
        cond b (record { answer = refused n p; left = cells }) (evaluate_call query doc (length cells)) in
        GaveStands (length cells) (told_by 0 o.answer)
    by_test true = tt
    by_test false = items_stand query doc (length cells) _ refl

pub write_fits : (query bytes doc : List ℕ) (l n k j t : ℕ) (ra : Answer) (cells : List ℤ) (ran evaluated : Told)
    → ran ≡ told_by 1 ra → evaluated ≡ told_by 0 (second ra cells query doc).answer → ra ≡ (run_call bytes doc l).answer
    → l ≡ 8192 → n ≡ length cells → 2730 ≤ k → j ≡ k → 87488 ≤ t
    → ((128 ≤ t) × (room_for ran ≤ t)) × (GaveStands j ran × GaveStands n evaluated)
write_fits query bytes doc l n k j t ra cells ran evaluated hr he ha hl hn hk hj ht =
    let w = run_within bytes doc l ra ha in (
      (omega arith, subst (λ (x : Told). room_for x ≤ t) (sym hr) (rows_room ra t (omega arith) ht)),
      (
        subst (GaveStands j) (sym hr) (rows_stand ra j (omega arith)),
        subst₂ GaveStands (sym hn) (sym he) (second_stands ra cells query doc),
      ),
    )
