-- What `chartask` prints never says that the engines differ: demand 3, of the answers and cells that the program has
-- in hand.
--     both-refused      where the catalogue is refused, both engines refuse it alike
--     both_alike        where neither had no room, both fail, or give the same items
--     never_differs     so the verdict is never that they differ
--     never_no          the bytes `same no` stand nowhere in what is printed
use Prim.Native.Nat.{ℕ}
use mathlib.Core.Path.{◌≡◌, refl, sym, ap, ◌∙◌}
use mathlib.Core.List.{List, [], ◌∷◌}
use mathlib.Core.Bool.{Bool, true, false, cond, ◌||◌}
use native.Mathlib.Omega.{arith}
use borrow.Author.Tests.{eq-eqb}
use lib.Dec.{eqb}
use lib.IntN.{ℤ}
use lib.ListN.{length, take}
use lib.Seq.{take_all}
use Rattle.cells.specs.Bytes.{Bytes}
use Rattle.laws.specs.Attempt.{Attempt, Reading, refuses, reads, reading}
use Rattle.meaning.specs.Catalogue.{Catalogue, catalogue_read}
use Rattle.meaning.specs.Query.{Read, query_read}
use Rattle.meaning.specs.Plan.{Op, Placed, plan_read}
use Rattle.meaning.specs.Operators.{same_row}
use Rattle.meaning.specs.Written.{written}
use Rattle.meaning.specs.Calls.{Answer, gives, refused, Outcome, refusal, plan_of, catalogue_answer, catalogue_call}
use Rattle.meaning.specs.Calls.{translate_outcome, translate_call, run_outcome, run_call, evaluate_outcome, evaluate_call}
use Rattle.theorems.proofs.PlanRead.{query_plan_back, translated}
use Rattle.theorems.specs.PlanRead.{TranslatedPlan}
use Rattle.agreement.specs.Passing.{means, Refused as RefusedBy, items_at, Alike, both_fail, both_give}
use Rattle.agreement.proofs.Encoded.{same_row_self}
use Rattle.agreement.proofs.EnginesAgree.{agree_in_hand}
use Rattle.verdicts.specs.declared.Verdict.{Verdict}
use Rattle.verdicts.specs.declared.Verdict.TheVariants.{Agree, Differ, Room}
use Rattle.verdicts.specs.Compared.{Told, Gave, Refused, refused_with, agree, verdict}
use Rattle.lines.specs.Text.{same_no, Nowhere}
use Rattle.lines.specs.Printed.{value_of, told_by, run_items, printed}
use Rattle.lines.proofs.SameNo.{no_same_no}

-- the verdict, test by test
module _ (ran : Told) (xs : List ℤ) (evaluated : Told) (ys : List ℤ) where
  first_room : refused_with 6 ran ≡ true → Room ≡ verdict ran xs evaluated ys
  unfolding verdict
  first_room e = rw e

  second_room : refused_with 6 evaluated ≡ true → Room ≡ verdict ran xs evaluated ys
  unfolding verdict
  second_room e = by_test (refused_with 6 ran)
    where
      by_test : (t : Bool) → Room ≡ cond (t || refused_with 6 evaluated) Room
          (cond (agree ran xs evaluated ys) Agree Differ)
      by_test true = refl
      by_test false = rw e

  by_agree : (t : Bool) → refused_with 6 ran ≡ false → refused_with 6 evaluated ≡ false
      → agree ran xs evaluated ys ≡ t
      → cond t Agree Differ ≡ verdict ran xs evaluated ys
  unfolding verdict
  by_agree t e d h = rw (e, d, h)

-- the verdict on a run and an evaluation
abbrev judged : Outcome ℤ → Outcome ℤ → Verdict
judged r e = verdict (told_by 1 r.answer) (run_items r) (told_by 0 e.answer) e.left

room_differs : Room ≡ Differ → ⊥
room_differs e = let z : ◌≡◌ {A = ℕ} 0 1 = cc in omega arith

agree_differs : Agree ≡ Differ → ⊥
agree_differs e = let z : ◌≡◌ {A = ℕ} 0 1 = cc in omega arith

six_told : (k : ℕ) (a : Answer) → RefusedBy 6 a → refused_with 6 (told_by k a) ≡ true
unfolding refused_with told_by
six_told k a (p, e) = ap (λ (b : Answer). refused_with 6 (told_by k b)) e

-- the same refusal is no difference
refused_alike : (n p q : ℕ) (r e : Outcome ℤ) → r.answer ≡ refused n p → e.answer ≡ refused n q
    → judged r e ≡ Differ → ⊥
unfolding verdict refused_with agree told_by
refused_alike n p q r e h k d =
    by_test (eqb n 6) (eqb n n) (eq-eqb n n refl)
    (sym (ap (λ (a : Answer). verdict (told_by 1 a) (run_items r) (told_by 0 e.answer) e.left) h
    ∙ ap (λ (a : Answer). verdict (Refused n p) (run_items r) (told_by 0 a) e.left) k) ∙ d)
  where
    by_test : (t u : Bool) → u ≡ true → cond (t || t) Room (cond u Agree Differ) ≡ Differ → ⊥
    by_test true u h e = room_differs e
    by_test false true h e = agree_differs e
    by_test false false h e = let z : ◌≡◌ {A = ℕ} 0 1 = cc in omega arith

-- the same items are no difference
given_alike : (items : List ℤ) (start filled count : ℕ) (r e : Outcome ℤ)
    → r.answer ≡ gives (start ∷ length items ∷ filled ∷ []) → e.answer ≡ gives (length items ∷ count ∷ [])
    → items_at r.left start (length items) ≡ items → take (length items) e.left ≡ items
    → judged r e ≡ Differ → ⊥
unfolding told_by run_items items_at value_of refused_with agree
given_alike items start filled count r e h k l m d =
    agree_differs
    (by_agree (Gave (length items)) (items_at r.left start (length items)) (Gave (length items)) e.left true
    refl refl
    (ap (λ (xs : List ℤ). same_row (take (length items) xs) (take (length items) e.left)) l
    ∙ ap (λ (xs : List ℤ). same_row (take (length items) items) xs) m
    ∙ ap (λ (xs : List ℤ). same_row xs items) (take_all (length items) items (omega arith))
    ∙ same_row_self items)
    ∙ sym (ap (λ (a : Answer).
    verdict (told_by 1 a) (run_items (record { answer = a; left = r.left })) (told_by 0 e.answer) e.left) h
    ∙ ap (λ (a : Answer).
    verdict (Gave (length items)) (items_at r.left start (length items)) (told_by 0 a) e.left) k)
    ∙ d)

both_alike : (a : Attempt (List ℤ)) (r e : Outcome ℤ) → Alike a r e → judged r e ≡ Differ → ⊥
both_alike a r e (both_fail f (p, h) (q, k)) d = refused_alike 7 p q r e h k d
both_alike a r e (both_give items start filled count g h k l m) d =
    given_alike items start filled count r e h k l m d

-- a refused catalogue is refused by both
module _ (bytes query doc : List ℕ) (lent n p : ℕ) (bad : catalogue_read doc ≡ refuses n p) where
  run_refused : (ps : List Placed) → plan_read bytes ≡ reads ps → (run_call bytes doc lent).answer ≡ refused n p
  unfolding run_call run_outcome reading refusal
  run_refused ps h = rw (h, bad) refl

  evaluate_refused : (r : Read) → query_read query ≡ reads r → (evaluate_call query doc lent).answer ≡ refused n p
  unfolding evaluate_call evaluate_outcome reading refusal
  evaluate_refused r h = rw (h, bad) refl

module _ (doc query : List ℕ) (small : Bytes query) (n m : ℕ)
    (told : (translate_call query 6144).answer ≡ gives (n ∷ m ∷ [])) where
  abbrev ours : Outcome ℤ
  ours = run_call (take m (translate_call query 6144).left) doc 8192

  abbrev theirs : Outcome ℤ
  theirs = evaluate_call query doc 8192

  never_differs : judged ours theirs ≡ Differ → ⊥
  unfolding catalogue_call catalogue_answer
  never_differs d = by_catalogue (catalogue_read doc) refl
    where
      t : TranslatedPlan query 6144 n m
      t = translated query 6144 n m told

      by_catalogue : (c : Reading Catalogue) → catalogue_read doc ≡ c → ⊥
      by_catalogue (refuses k p) bad =
          let (ps, back) =
          query_plan_back query t.read small t.accepted (omega (arith, t.operators, t.within)) in
          refused_alike k p p ours theirs
          (run_refused _ query doc 8192 k p bad ps (ap plan_read t.bytes ∙ back.back))
          (evaluate_refused [] query doc 8192 k p bad t.read t.accepted) d
      by_catalogue (reads c) sound =
          let (i, alike) =
          agree_in_hand query doc (translate_call query 6144).left ours.left theirs.left
          (translate_call query 6144).answer (catalogue_call doc) ours.answer theirs.answer
          6144 8192 8192 n m c.rows small
          (record { answers = refl; leaves = refl }) told refl (ap catalogue_answer sound)
          (record { answers = refl; leaves = refl })
          (λ s. room_differs (first_room _ _ _ _ (six_told 1 ours.answer s) ∙ d))
          (record { answers = refl; leaves = refl })
          (λ s. room_differs (second_room _ _ _ _ (six_told 0 theirs.answer s) ∙ d)) in
          both_alike (means i) ours theirs alike d

-- what the translator answers is a refusal, or has two numbers
outcome_two : (lent : ℕ) (ns : List ℕ) (a : Reading (List Op)) → (translate_outcome lent a).answer ≡ gives ns
    → (n m : ℕ) × (ns ≡ n ∷ m ∷ [])
unfolding translate_outcome refusal
outcome_two lent ns (refuses k p) e = let z : ◌≡◌ {A = ℕ} 0 1 = cc in absurd (omega arith)
outcome_two lent ns (reads os) e = (length os, length (written os), cc)

translate_two : (query : List ℕ) (lent : ℕ) (ns : List ℕ) → (translate_call query lent).answer ≡ gives ns
    → (n m : ℕ) × (ns ≡ n ∷ m ∷ [])
unfolding translate_call
translate_two query lent ns e = outcome_two lent ns (reading (query_read query) (λ r. plan_of lent r.tree)) e

pub never_no : (doc query : List ℕ) → Bytes query → Nowhere same_no (printed doc query)
unfolding printed told_by value_of
never_no doc query small =
    no_same_no _ _ _ _ _ (λ k e. by_answer (translate_call query 6144).answer refl k e)
  where
    by_answer : (a : Answer) → (translate_call query 6144).answer ≡ a → (k : ℕ) → told_by 0 a ≡ Gave k
        → judged (run_call (take (value_of 1 a) (translate_call query 6144).left) doc 8192) (evaluate_call query doc 8192)
        ≡ Differ → ⊥
    by_answer (refused n p) h k e d = let z : ◌≡◌ {A = ℕ} 0 1 = cc in absurd (omega arith)
    by_answer (gives ns) h k e d =
        let (n, m, two) = translate_two query 6144 ns h in
        never_differs doc query small n m (h ∙ ap gives two)
        (ap (λ (x : Answer).
        judged (run_call (take (value_of 1 x) (translate_call query 6144).left) doc 8192) (evaluate_call query doc 8192))
        (ap gives (sym two)) ∙ d)
