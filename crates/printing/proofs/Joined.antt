-- What was put is what is printed.
--     second_text      where the evaluator is not asked, the text is the same
--     engines_text     both engines' answers and cells, in hand, make the text of a plan
--     cells_end, items_end     .. and what is left in the cells, and kept
--     refused_text     after a translator's refusal the rest does not matter
--     bytes_within     the plan's bytes stand in the lent bytes
--     plan_text        the text of a plan is what is printed
--     tells_refused, tells_plan     what `tell` leaves, after a translator's refusal, and of a plan
use Rattle.std.specs.Prelude.{Result, Ok, Err}
use Prim.Native.Nat.{ℕ, ◌-◌, ◌≤◌}
use mathlib.Core.Path.{◌≡◌, refl, sym, ap, ◌∙◌, subst}
use mathlib.Core.List.{List, [], ◌∷◌}
use mathlib.Core.Bool.{Bool, true, false, cond}
use native.Mathlib.Omega.{arith}
use native.Mathlib.Nat.{sub-zero}
use lib.IntN.{ℤ}
use lib.ListN.{length, take}
use Rattle.laws.specs.Rows.{laid}
use Rattle.cells.specs.Bytes.{Bytes}
use Rattle.meaning.specs.Calls.{Answer, gives, Outcome, translate_call, run_call, evaluate_call}
use Rattle.codes.specs.declared.refusals.Refusal.{Refusal}
use Rattle.translator.specs.declared.Translated.{Translated}
use Rattle.translator.specs.Answers.{answered}
use Rattle.lines.specs.Text as Text
use Rattle.verdicts.specs.Compared.{Told, refused_with}
use Rattle.lines.specs.Text.{text, same_no, Nowhere}
use Rattle.lines.specs.Printed.{value_of, told_by, run_items, printed}
use Rattle.lines.specs.Placed.{Put}
use Rattle.lines.proofs.Lines.{text_room}
use Rattle.lines.proofs.Putting.{put_is, put_text, put_length}
use Rattle.printing.specs.Engines.{engines, planned, plan_run, TextEnds, TellsText}
use Rattle.answers.specs.Second.{second}
use Rattle.printing.proofs.NeverNo.{never_no}
use Rattle.printing.proofs.Fitting.{plan_within}
use Rattle.answers.proofs.Keeping.{items_of, text_kept}

-- where the runner answered 6 the evaluator is not asked, and the text is the same
second_text : (t : Told) (a : Answer) (cells xs : List ℤ) (query doc : List ℕ) → length cells ≡ 8192
    → text t (told_by 1 a) xs (told_by 0 (second a cells query doc).answer) (second a cells query doc).left
    ≡ text t (told_by 1 a) xs (told_by 0 (evaluate_call query doc 8192).answer) (evaluate_call query doc 8192).left
unfolding second
second_text t a cells xs query doc h = by_test (refused_with 6 (told_by 1 a)) refl
  where
    by_test : (b : Bool) → refused_with 6 (told_by 1 a) ≡ b →
        let o : Outcome ℤ = cond b (record { answer = a; left = cells }) (evaluate_call query doc (length cells)) in
        text t (told_by 1 a) xs (told_by 0 o.answer) o.left
        ≡ text t (told_by 1 a) xs (told_by 0 (evaluate_call query doc 8192).answer) (evaluate_call query doc 8192).left
    by_test true e = text_room t (told_by 1 a) xs _ _ _ _ e
    by_test false e =
        ap
        (λ (l : ℕ).
        text t (told_by 1 a) xs (told_by 0 (evaluate_call query doc l).answer) (evaluate_call query doc l).left) h

-- the runner ran in 8,192 cells, and left w
module _ (query plan doc : List ℕ) (l : ℕ) (ra : Answer) (w ys ks zs : List ℤ) (hl : l ≡ 8192)
    (ha : ra ≡ (run_call plan doc l).answer) (hw : w ≡ (run_call plan doc l).left) (hk : ks ≡ laid ys 0 (items_of w ra))
    (hz : zs ≡ (second ra w query doc).left) where
  pub engines_text : (t tr te : Told) → length w ≡ l → te ≡ told_by 0 (second ra w query doc).answer → tr ≡ told_by 1 ra
      → text t tr ks te zs ≡ engines t query plan doc
  unfolding engines run_items
  engines_text t tr te long he hr =
      let kept = text_kept t ra w ys te zs in
      let asked = second_text t ra w (items_of w ra) query doc (long ∙ hl) in
      cc

  pub cells_end : zs ≡ (second (run_call plan doc 8192).answer (run_call plan doc 8192).left query doc).left
  cells_end = cc

  pub items_end : ks ≡ laid ys 0 (run_items (run_call plan doc 8192))
  unfolding run_items
  items_end = cc

any_rest : (x : Result Translated Refusal) (r : Refusal) → x ≡ Err r
    → (ran ran' : Told) (xs xs' : List ℤ) (evaluated evaluated' : Told) (ys ys' : List ℤ)
    → text (told_by 0 (answered x)) ran xs evaluated ys ≡ text (told_by 0 (answered x)) ran' xs' evaluated' ys'
unfolding text told_by answered
any_rest x r h ran ran' xs xs' evaluated evaluated' ys ys' = rw h refl

module _ (x : Result Translated Refusal) (told : Told) (query doc : List ℕ) (l : ℕ) where
  -- after a refusal the rest does not matter
  pub refused_text : (r : Refusal) (ran evaluated : Told) (xs ys : List ℤ) → x ≡ Err r → l ≡ 6144
      → answered x ≡ (translate_call query l).answer → told ≡ told_by 0 (answered x)
      → text told ran xs evaluated ys ≡ printed doc query
  unfolding printed
  refused_text r ran evaluated xs ys h e a d =
      rest (translate_call query 6144).answer (a ∙ ap (λ (k : ℕ). (translate_call query k).answer) e) _ _ _ _
    where
      rest : (o : Answer) → answered x ≡ o → (ran' evaluated' : Told) (xs' ys' : List ℤ)
          → text told ran xs evaluated ys ≡ text (told_by 0 o) ran' xs' evaluated' ys'
      rest o k ran' evaluated' xs' ys' =
          ap (λ (t : Told). text t ran xs evaluated ys) d
          ∙ any_rest x r h ran ran' xs xs' evaluated evaluated' ys ys'
          ∙ ap (λ (b : Answer). text (told_by 0 b) ran' xs' evaluated' ys') k

  -- the text of the plan is what is printed
  pub plan_text : (t : Translated) (bytes : List ℕ) → x ≡ Ok t → l ≡ 6144 → answered x ≡ (translate_call query l).answer
      → bytes ≡ (translate_call query l).left → told ≡ told_by 0 (answered x)
      → engines told query (take (t.bytes - 0) bytes) doc ≡ printed doc query
  unfolding printed engines answered value_of
  plan_text t bytes e h a b d =
      let z : t.bytes - 0 ≡ t.bytes = sub-zero t.bytes in
      let v : value_of 1 (answered x) ≡ t.bytes = ap (λ (y : Result Translated Refusal). value_of 1 (answered y)) e in
      cc

-- the plan's bytes stand in the lent bytes
pub bytes_within : (x : Result Translated Refusal) (query : List ℕ) (l : ℕ) (t : Translated) → x ≡ Ok t
    → answered x ≡ (translate_call query l).answer → t.bytes ≤ l
unfolding answered value_of
bytes_within x query l t e a =
    subst (λ (y : Result Translated Refusal). value_of 1 (answered y) ≤ l) e (plan_within query l (answered x) a)

-- What `tell` leaves

-- the text, put at the start
text_put : (query doc xs ys bs : List ℕ) (n : ℕ) → Bytes query → Put xs ys 0 bs n → bs ≡ printed doc query
    → Put xs ys 0 (printed doc query) n × (take n ys ≡ printed doc query) × (n ≤ length ys) × Nowhere same_no (take n ys)
text_put query doc xs ys bs n small p e =
    let prints : take n ys ≡ printed doc query = put_text xs ys bs n p ∙ e in (
      put_is _ _ _ _ _ p _ e,
      prints,
      omega (arith, p.fits, put_length xs 0 ys bs n p),
      subst (λ (t : List ℕ). Nowhere same_no t) (sym prints) (never_no doc query small),
    )

-- where the translator refused, there is no plan
stays : {A : Type 0} (x : Result Translated Refusal) (o : Answer) (a b : A) (r : Refusal) → answered x ≡ o → x ≡ Err r
    → b ≡ planned o a b
unfolding planned answered
stays x o a b r e h = ap (λ (c : Answer). planned c a b) (sym (ap answered h) ∙ e)

module _ (x : Result Translated Refusal) (told : Told) (query doc bytes : List ℕ) (l : ℕ) (small : Bytes query) (six : l ≡ 6144)
    (answers : answered x ≡ (translate_call query l).answer) (leaves : bytes ≡ (translate_call query l).left)
    (tells : told ≡ told_by 0 (answered x)) (work kept : List ℤ) (text text' : List ℕ) (k : ℕ) where
  theirs : answered x ≡ (translate_call query 6144).answer
  theirs = answers ∙ ap (λ (j : ℕ). (translate_call query j).answer) six

  bytes_are : bytes ≡ (translate_call query 6144).left
  bytes_are = leaves ∙ ap (λ (j : ℕ). (translate_call query j).left) six

  pub tells_refused : (r : Refusal) (ran evaluated : Told) (xs ys : List ℤ) → x ≡ Err r
      → Put text text' 0 (Text.text told ran xs evaluated ys) k
      → TellsText query doc bytes work work kept kept text text' k
  tells_refused r ran evaluated xs ys h p =
      let (put, prints, within, never) =
      text_put query doc text text' _ k small p
      (refused_text x told query doc l r ran evaluated xs ys h six answers tells) in
      record {
        put = put;
        prints = prints;
        within = within;
        never_no = never;
        plan = bytes_are;
        cells = stays x _ _ work r theirs h;
        items = stays x _ _ kept r theirs h;
      }

  pub tells_plan : (t : Translated) (work' kept' : List ℤ) → x ≡ Ok t
      → TextEnds told query (take (t.bytes - 0) bytes) doc kept kept' work' text text' k
      → TellsText query doc bytes work work' kept kept' text text' k
  unfolding planned answered value_of
  tells_plan t work' kept' e p =
      let m = t.bytes in
      let g : (translate_call query 6144).answer ≡ gives (t.operators ∷ t.bytes ∷ []) = sym theirs ∙ ap answered e in
      let z : m - 0 ≡ m = sub-zero m in
      let v : value_of 1 (translate_call query 6144).answer ≡ m = ap (value_of 1) g in
      let same : take (m - 0) bytes
      ≡ take (value_of 1 (translate_call query 6144).answer) (translate_call query 6144).left =
      ap (λ (j : ℕ). take j bytes) (z ∙ sym v) ∙ ap (take (value_of 1 (translate_call query 6144).answer)) bytes_are in
      let (put, prints, within, never) =
      text_put query doc text text' _ k small p.put
      (plan_text x told query doc l t bytes e six answers leaves tells)
      in
      record {
        put = put;
        prints = prints;
        within = within;
        never_no = never;
        plan = bytes_are;
        cells =
            p.work
            ∙ ap
            (λ (bs : List ℕ). (second (run_call bs doc 8192).answer (run_call bs doc 8192).left query doc).left) same
            ∙ sym
            (ap
            (λ (a : Answer).
            planned a (second (plan_run query doc).answer (plan_run query doc).left query doc).left work) g);
        items =
            p.kept_items
            ∙ ap (λ (bs : List ℕ). laid kept 0 (run_items (run_call bs doc 8192))) same
            ∙ sym (ap (λ (a : Answer). planned a (laid kept 0 (run_items (plan_run query doc))) kept) g);
      }
