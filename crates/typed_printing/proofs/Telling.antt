-- What `tell` leaves, by what the reader answered.
--     refused_call     an outcome of the reader that refuses is that refusal's: zeros in all that was lent
--     records_call     one that gives records has their bytes, and zeros after them
--     bytes_within     the record bytes stand in the lent bytes
--     nine_at_most     the numbers of refusals are 9 at most
--     tells_refused, tells_records     so `tell` leaves what it promises
use Prim.Native.Nat.{ℕ, ◌-◌, ◌≤◌}
use mathlib.Core.Path.{◌≡◌, refl, sym, ap, ap₂, ◌∙◌, subst}
use mathlib.Core.List.{List, [], ◌∷◌}
use mathlib.Core.Bool.{Bool, true, false, cond}
use native.Mathlib.Omega.{arith}
use native.Mathlib.Nat.{sub-zero}
use borrow.Author.Tests.{leb-true}
use Rattle.std.specs.Prelude.{Result, Ok, Err}
use lib.Dec.{leb}
use lib.IntN.{ℤ}
use lib.ListN.{length, take, replicate}
use lib.Seq.{take_at}
use Rattle.laws.specs.Attempt.{Reading, refuses, reads}
use Rattle.laws.specs.Rows.{padded}
use Rattle.meaning.specs.Query.{Read, query_read}
use Rattle.meaning.specs.Calls.{Answer, gives, refused, Outcome, refusal}
use Rattle.codes.specs.Refusals.{number_of}
use Rattle.codes.specs.declared.refusals.Reason.{Reason}
use Rattle.codes.specs.declared.refusals.Refusal.{Refusal}
use Rattle.verdicts.specs.Compared.{Told, Gave, Refused}
use Rattle.lines.specs.Text as Text
use Rattle.lines.specs.Text.{refused_line, same_no, Nowhere}
use Rattle.lines.specs.Placed.{Put}
use Rattle.lines.proofs.Putting.{put_text, put_length}
use Rattle.lines.proofs.SameNo.{no_same_no}
use Rattle.grammar.specs.Typed.{TypedCall, outside, inside, records_outcome}
use Rattle.reader.specs.declared.Typed.{Typed}
use Rattle.reader.specs.Answers.{answered, outcome}
use Rattle.printing.specs.Engines.{TellsText}
use Rattle.typed_printing.specs.Telling.{TellsTyped, refused_text, records_text}

same_outcome : {a b : Answer} {y z : List ℕ} → a ≡ b → y ≡ z
    → ◌≡◌ {A = Outcome ℕ} (record { answer = a; left = y }) (record { answer = b; left = z })
same_outcome e f = rw (e, f)

gave_not_refused : (ns : List ℕ) (k p : ℕ) → gives ns ≡ refused k p → ⊥
gave_not_refused ns k p e = let z : ◌≡◌ {A = ℕ} 0 1 = cc in omega arith

-- an outcome that refuses, of records
records_refused : (l : ℕ) (bs : List ℕ) (m : Reading Read) (k p : ℕ) → (records_outcome l bs m).answer ≡ refused k p
    → records_outcome l bs m ≡ refusal 0 l k p
unfolding records_outcome refusal
records_refused l bs (refuses n q) k p e =
    ap (λ (a : Answer). record { answer = a; left = replicate l 0 }) e
records_refused l bs (reads r) k p e = by_test (leb (length bs) l) e
  where
    by_test : (b : Bool)
        → (cond b (record { answer = gives (r.records ∷ length bs ∷ []); left = padded 0 l bs }) (refusal 0 l 8 0)
        ).answer ≡ refused k p
        → cond b (record { answer = gives (r.records ∷ length bs ∷ []); left = padded 0 l bs }) (refusal 0 l 8 0)
        ≡ refusal 0 l k p
    by_test true f = absurd (gave_not_refused _ k p f)
    by_test false f = ap (λ (a : Answer). record { answer = a; left = replicate l 0 }) f

-- .. and one that gives
records_given : (l : ℕ) (bs : List ℕ) (m : Reading Read) (j k : ℕ)
    → (records_outcome l bs m).answer ≡ gives (j ∷ k ∷ [])
    → (length bs ≡ k) × ((records_outcome l bs m).left ≡ padded 0 l bs) × (k ≤ l)
unfolding records_outcome refusal
records_given l bs (refuses n q) j k e = absurd (gave_not_refused _ n q (sym e))
records_given l bs (reads r) j k e = by_test (leb (length bs) l) refl e
  where
    by_test : (b : Bool) → leb (length bs) l ≡ b
        → (cond b (record { answer = gives (r.records ∷ length bs ∷ []); left = padded 0 l bs }) (refusal 0 l 8 0)
        ).answer ≡ gives (j ∷ k ∷ [])
        → (length bs ≡ k)
        × ((cond b (record { answer = gives (r.records ∷ length bs ∷ []); left = padded 0 l bs }) (refusal 0 l 8 0)
        ).left ≡ padded 0 l bs)
        × (k ≤ l)
    by_test true t f =
        let same : length bs ≡ k = cc in
        (same, refl, omega (arith, leb-true (length bs) l t, same))
    by_test false t f = absurd (gave_not_refused _ 8 0 (sym f))

pub refused_call : (t : List ℕ) (l : ℕ) (o : Outcome ℕ) (k p : ℕ) → TypedCall t l o → o.answer ≡ refused k p
    → o ≡ refusal 0 l k p
unfolding refusal
refused_call t l o k p (outside q out e) a =
    e ∙ ap (λ (b : Answer). record { answer = b; left = replicate l 0 }) (sym (ap (λ (x : Outcome ℕ). x.answer) e) ∙ a)
refused_call t l o k p (inside bs typed e) a =
    e ∙ records_refused l bs (query_read bs) k p (sym (ap (λ (x : Outcome ℕ). x.answer) e) ∙ a)

pub records_call : (t : List ℕ) (l : ℕ) (o : Outcome ℕ) (j k : ℕ) → TypedCall t l o → o.answer ≡ gives (j ∷ k ∷ [])
    → (bs : List ℕ) × (length bs ≡ k) × (o.left ≡ padded 0 l bs) × (k ≤ l)
unfolding refusal
records_call t l o j k (outside q out e) a =
    absurd (gave_not_refused _ 9 q (sym a ∙ ap (λ (x : Outcome ℕ). x.answer) e))
records_call t l o j k (inside bs typed e) a =
    let (long, left, fits) =
    records_given l bs (query_read bs) j k (sym (ap (λ (x : Outcome ℕ). x.answer) e) ∙ a) in
    (bs, long, ap (λ (x : Outcome ℕ). x.left) e ∙ left, fits)

pub nine_at_most : (r : Reason) → number_of r ≤ 9
nine_at_most Reason.Record = omega arith
nine_at_most Reason.Excess = omega arith
nine_at_most Reason.Unbound = omega arith
nine_at_most Reason.Catalogue = omega arith
nine_at_most Reason.Plan = omega arith
nine_at_most Reason.Room = omega arith
nine_at_most Reason.Failure = omega arith
nine_at_most Reason.Longer = omega arith
nine_at_most Reason.Outside = omega arith

-- the text of a refusal
refused_quiet : (k p : ℕ) → Nowhere same_no (refused_line k p)
unfolding Text.text
refused_quiet k p =
    no_same_no (Refused k p) (Gave 0) [] (Gave 0) [] (λ j e. absurd (let z : ◌≡◌ {A = ℕ} 0 1 = cc in omega arith))

module _ (x : Result Typed Refusal) (typed query : List ℕ) (l : ℕ) (call : TypedCall typed l (outcome x query)) where
  gave : (m : Typed) → x ≡ Ok m → (outcome x query).answer ≡ gives (m.records ∷ m.bytes ∷ [])
  unfolding answered
  gave m e = ap answered e

  -- the record bytes stand in the lent bytes
  pub bytes_within : (m : Typed) → x ≡ Ok m → m.bytes ≤ l
  bytes_within m e =
      let (bs, size, left, fits) =
      records_call typed l (outcome x query) m.records m.bytes call (gave m e) in
      fits

  module _ (long : l ≡ 1024) (doc plan : List ℕ) (work kept : List ℤ) (text text' : List ℕ) (n : ℕ) where
    call_is : (o : Outcome ℕ) → outcome x query ≡ o → TypedCall typed 1024 o
    call_is o e = subst (TypedCall typed 1024) e (subst (λ (j : ℕ). TypedCall typed j (outcome x query)) long call)

    pub tells_refused : (r : Refusal) (k p : ℕ) (ran evaluated : Told) (xs ys : List ℤ) → x ≡ Err r
        → Put text text' 0 (Text.text (Refused k p) ran xs evaluated ys) n → k ≡ number_of r.reason → p ≡ r.place
        → TellsTyped typed doc query plan plan work work kept kept text text' n
        × (n ≤ length text') × Nowhere same_no (take n text')
    unfolding refusal answered Text.text
    tells_refused r k p ran evaluated xs ys h given same_number same_place =
        let put : Put text text' 0 (refused_line (number_of r.reason) r.place) n =
        subst (λ (l : List ℕ). Put text text' 0 l n) (ap₂ refused_line same_number same_place) given in
        let is : outcome x query ≡ refusal 0 1024 (number_of r.reason) r.place =
        refused_call typed l (outcome x query) (number_of r.reason) r.place call (ap answered h)
        ∙ ap (λ (j : ℕ). refusal 0 j (number_of r.reason) r.place) long in (
          refused_text (record {
            number = number_of r.reason;
            place = r.place;
            call = call_is (refusal 0 1024 (number_of r.reason) r.place) is;
            query_left = ap (λ (o : Outcome ℕ). o.left) is;
            plan_left = refl;
            work_left = refl;
            kept_left = refl;
            put = put;
          }),
          omega (arith, put.fits, put_length text 0 text' _ n put),
          subst (λ (t : List ℕ). Nowhere same_no t) (sym (put_text text text' _ n put)) (refused_quiet (number_of r.reason) r.place),
        )

    -- the records, as they stand in the lent bytes
    whole : (bs : List ℕ) (bytes : ℕ) → length bs ≡ bytes → query ≡ padded 0 1024 bs → take (bytes - 0) query ≡ bs
    unfolding padded
    whole bs bytes size left =
        ap (λ (j : ℕ). take j query) (sub-zero bytes)
        ∙ ap (take bytes) left
        ∙ take_at bs (replicate (1024 - length bs) 0) bytes size

    pub tells_records : (m : Typed) (plan' : List ℕ) (work' kept' : List ℤ) → x ≡ Ok m
        → TellsText (take (m.bytes - 0) query) doc plan' work work' kept kept' text text' n
        → TellsTyped typed doc query plan plan' work work' kept kept' text text' n
        × (n ≤ length text') × Nowhere same_no (take n text')
    tells_records m plan' work' kept' e t =
        let a : (outcome x query).answer ≡ gives (m.records ∷ m.bytes ∷ []) = gave m e in
        let (bs, size, left, fits) = records_call typed l (outcome x query) m.records m.bytes call a in
        let stands : query ≡ padded 0 1024 bs = left ∙ ap (λ (j : ℕ). padded 0 j bs) long in (
          records_text (record {
            records = m.records;
            bytes = bs;
            call =
                call_is (record { answer = gives (m.records ∷ length bs ∷ []); left = padded 0 1024 bs })
                (same_outcome (a ∙ ap (λ (j : ℕ). gives (m.records ∷ j ∷ [])) (sym size)) stands);
            query_left = stands;
            tells =
                subst (λ (b : List ℕ). TellsText b doc plan' work work' kept kept' text text' n)
                (whole bs m.bytes size stands) t;
          }),
          t.within,
          t.never_no,
        )
