-- What the calls on typed queries refuse, clear and answer (document 02, L1).
--     giving lent ns bs               the outcome of values ns, over what is written
--     Ended from given lent o         how a call ended: a refusal, and whence; or values, over what is written
--     ended-..                        what that says of refusals, of what is left, of values
--     ReadGives, WriteGives           the values of each call, and what it writes
--     read_outcome                    every text has an outcome
--     read_whence, write_whence       each call's refusals, both ways
--     read_cleared, write_cleared     as much is left as was lent, all zeros where a call refuses
--     read_enough, write_enough       the records, the text, where enough bytes are lent
--     read_records, write_written     what an answer of values says
use Prim.Native.Nat.{ℕ, ◌≤◌, ◌<◌}
use mathlib.Core.Path.{◌≡◌, refl, sym, ap, ap₂, ◌∙◌, subst, subst₂}
use mathlib.Core.Logic.{◌⊎◌, inl, inr}
use mathlib.Core.List.{List, [], ◌∷◌}
use mathlib.Core.Bool.{Bool, true, false}
use native.Mathlib.Omega.{arith}
use borrow.Author.Tests.{leb-true, leb-false, le-leb, lt-leb}
use lib.Dec.{leb}
use lib.ListN.{length, replicate, length-replicate}
use Rattle.laws.specs.Attempt.{Reading, refuses, reads, reading, unless}
use Rattle.laws.specs.Rows.{padded}
use Rattle.meaning.specs.Query.{Read, query_read}
use Rattle.meaning.specs.Calls.{gives, refused, Outcome, refusal}
use Rattle.grammar.specs.Grammar.{expr}
use Rattle.grammar.specs.Typed.{Typed, Outside, records_outcome, TypedCall, outside, inside}
use Rattle.grammar.specs.Written.{text_of, lent_text, write_outcome, write_call}
use Rattle.parsing.proofs.Theorems.{nine_exactly, one_outcome, never_one}
use Rattle.agreement.specs.Passing.{Cleared}
use Rattle.agreement.proofs.EngineCalls.{gives_refused, length_padded}
use Rattle.promises.specs.Promises.{Refuses, OfReading, of_grammar, of_records, records_longer, OfWriting}
use Rattle.promises.specs.Promises.{text_longer}
use Rattle.promises.specs.Promises as Page
use Rattle.promises.proofs.Numbers.{query_three}

-- How a call ended

abbrev giving : ℕ → List ℕ → List ℕ → Outcome ℕ
giving lent ns bs = record { answer = gives ns; left = padded 0 lent bs }

data Ended (from : ℕ → ℕ → Type 0) (given : List ℕ → List ℕ → Type 0) (lent : ℕ) (o : Outcome ℕ) : Type 0 where
  ended_refused : (n p : ℕ) → from n p → o ≡ refusal 0 lent n p → Ended from given lent o
  ended_given : (ns bs : List ℕ) → given ns bs → length bs ≤ lent → o ≡ giving lent ns bs → Ended from given lent o

answers_same : {o o' : Outcome ℕ} → o ≡ o' → o.answer ≡ o'.answer
answers_same e = ap (λ (o : Outcome ℕ). o.answer) e

left_same : {o o' : Outcome ℕ} → o ≡ o' → o.left ≡ o'.left
left_same e = ap (λ (o : Outcome ℕ). o.left) e

module _ (from : ℕ → ℕ → Type 0) (given : List ℕ → List ℕ → Type 0) (lent : ℕ) (o : Outcome ℕ) where
  ended_from : Ended from given lent o → (n p : ℕ) → o.answer ≡ refused n p → from n p
  unfolding refusal
  ended_from (ended_refused k q h e) n p a =
      let d : refused k q ≡ refused n p = sym (answers_same e) ∙ a in
      subst₂ from (cc) (cc) h
  ended_from (ended_given ns bs h enough e) n p a = gives_refused ns n p (sym (answers_same e) ∙ a)

  ended_long : Ended from given lent o → length o.left ≡ lent
  unfolding refusal
  ended_long (ended_refused n p h e) = ap length (left_same e) ∙ length-replicate lent 0
  ended_long (ended_given ns bs h enough e) = ap length (left_same e) ∙ length_padded 0 lent bs enough

  ended_zeroed : Ended from given lent o → (n p : ℕ) → o.answer ≡ refused n p → o.left ≡ replicate lent 0
  unfolding refusal
  ended_zeroed (ended_refused k q h e) n p a = left_same e
  ended_zeroed (ended_given ns bs h enough e) n p a = gives_refused ns n p (sym (answers_same e) ∙ a)

  ended_gave : Ended from given lent o → (ms : List ℕ) → o.answer ≡ gives ms
      → (bs : List ℕ) × given ms bs × (o.left ≡ padded 0 lent bs)
  unfolding refusal
  ended_gave (ended_refused k q h e) ms a = gives_refused ms k q (sym a ∙ answers_same e)
  ended_gave (ended_given ns bs h enough e) ms a =
      let d : gives ns ≡ gives ms = sym (answers_same e) ∙ a in
      (bs, subst (λ (xs : List ℕ). given xs bs) (cc) h, left_same e)

-- The reader

module _ (lent : ℕ) (bs : List ℕ) where
  records_refused : (n p : ℕ) → query_read bs ≡ refuses n p
      → records_outcome lent bs (query_read bs) ≡ refusal 0 lent n p
  unfolding records_outcome
  records_refused n p e = rw e

  records_longer_lem : (r : Read) → query_read bs ≡ reads r → lent < length bs
      → records_outcome lent bs (query_read bs) ≡ refusal 0 lent 8 0
  unfolding records_outcome
  records_longer_lem r e long = rw (e, lt-leb (length bs) lent long)

  records_given : (r : Read) → query_read bs ≡ reads r → length bs ≤ lent
      → records_outcome lent bs (query_read bs) ≡ giving lent (r.records ∷ length bs ∷ []) bs
  unfolding records_outcome
  records_given r e enough = rw (e, le-leb (length bs) lent enough)

pub read_outcome : (text : List ℕ) (lent : ℕ) → (o : Outcome ℕ) × TypedCall text lent o
read_outcome text lent = go (nine_exactly text)
  where
    go : ((bs : List ℕ) × Typed text bs) ⊎ ((p : ℕ) × Outside text p) → (o : Outcome ℕ) × TypedCall text lent o
    go (inl (bs, h)) = (records_outcome lent bs (query_read bs), inside bs h refl)
    go (inr (p, h)) = (refusal 0 lent 9 p, outside p h refl)

record ReadGives (text ns bs : List ℕ) : Type 0 where
  read : Read
  typed : Typed text bs
  accepted : query_read bs ≡ reads read
  values : ns ≡ read.records ∷ length bs ∷ []

module _ (text : List ℕ) (lent : ℕ) (o : Outcome ℕ) where
  abbrev ReadEnded : Type 0
  ReadEnded = Ended (OfReading text lent) (ReadGives text) lent o

  read_ended : TypedCall text lent o → ReadEnded
  read_ended (outside p h e) = ended_refused 9 p (of_grammar h refl) e
  read_ended (inside bs h e) = by_records (query_read bs) refl
    where
      fitting : (r : Read) → query_read bs ≡ reads r → (t : Bool) → leb (length bs) lent ≡ t → ReadEnded
      fitting r a true t =
          let enough : length bs ≤ lent = leb-true _ lent t in
          ended_given _ bs (record { read = r; typed = h; accepted = a; values = refl }) enough
          (e ∙ records_given lent bs r a enough)
      fitting r a false t =
          let long : lent < length bs = leb-false _ lent t in
          ended_refused 8 0 (records_longer bs h r a long refl refl) (e ∙ records_longer_lem lent bs r a long)

      by_records : (m : Reading Read) → query_read bs ≡ m → ReadEnded
      by_records (refuses n p) a =
          let three = query_three bs n p a in
          let not_one : ¬ (n ≡ 1) = λ d. never_one text bs p h (a ∙ ap (λ (k : ℕ). refuses k p) d) in
          ended_refused n p (of_records bs h (omega (arith, three.0, not_one)) three.1 a)
          (e ∙ records_refused lent bs n p a)
      by_records (reads r) a = fitting r a _ refl

  -- the call has one outcome
  read_to : TypedCall text lent o → (n p : ℕ) → OfReading text lent n p → o.answer ≡ refused n p
  unfolding refusal
  read_to c n p (of_grammar h a) =
      answers_same (one_outcome text lent o _ c (outside p h refl)) ∙ ap (λ (k : ℕ). refused k p) (sym a)
  read_to c n p (of_records bs h low high e) =
      answers_same (one_outcome text lent o _ c (inside bs h refl) ∙ records_refused lent bs n p e)
  read_to c n p (records_longer bs h r e long a b) =
      answers_same (one_outcome text lent o _ c (inside bs h refl) ∙ records_longer_lem lent bs r e long)
      ∙ ap₂ refused (sym a) (sym b)

  pub read_whence : TypedCall text lent o → Refuses o.answer (OfReading text lent)
  read_whence c = record { comes_from = ended_from _ _ lent o (read_ended c); leads_to = read_to c }

  pub read_records : TypedCall text lent o → (n m : ℕ) → o.answer ≡ gives (n ∷ m ∷ [])
      → (bs : List ℕ) × (r : Read) × Typed text bs × (query_read bs ≡ reads r) × (n ≡ r.records) × (m ≡ length bs)
      × (o.left ≡ padded 0 lent bs)
  read_records c n m a =
      let (bs, h, left) = ended_gave _ _ lent o (read_ended c) (n ∷ m ∷ []) a in
      let values = h.values in
      let first : n ≡ h.read.records = cc in
      let second : m ≡ length bs = cc in
      (bs, h.read, h.typed, h.accepted, first, second, left)

pub read_cleared : (text : List ℕ) (call : ℕ → Outcome ℕ) → ((lent : ℕ) → TypedCall text lent (call lent))
    → Cleared 0 call
read_cleared text call c =
    record {
      long = λ lent. ended_long _ _ lent (call lent) (read_ended text lent (call lent) (c lent));
      zeroed = λ lent. ended_zeroed _ _ lent (call lent) (read_ended text lent (call lent) (c lent));
    }

pub read_enough : (text bs : List ℕ) → Typed text bs → (r : Read) → query_read bs ≡ reads r → (lent : ℕ)
    → length bs ≤ lent → (o : Outcome ℕ) → TypedCall text lent o
    → o ≡ record { answer = gives (r.records ∷ length bs ∷ []); left = padded 0 lent bs }
read_enough text bs h r a lent enough o c =
    one_outcome text lent o _ c (inside bs h refl) ∙ records_given lent bs r a enough

-- The writer

record WriteGives (query ns t : List ℕ) : Type 0 where
  read : Read
  accepted : query_read query ≡ reads read
  text : t ≡ text_of expr read.tree
  values : ns ≡ length t ∷ []

module _ (query : List ℕ) (lent : ℕ) where
  write_refused : (n p : ℕ) → query_read query ≡ refuses n p → write_call query lent ≡ refusal 0 lent n p
  unfolding write_call write_outcome reading
  write_refused n p e = rw e

  module _ (r : Read) (e : query_read query ≡ reads r) where
    write_longer : lent < length (text_of expr r.tree) → write_call query lent ≡ refusal 0 lent 8 0
    unfolding write_call write_outcome reading lent_text unless
    write_longer long = rw (e, lt-leb (length (text_of expr r.tree)) lent long)

    write_given : length (text_of expr r.tree) ≤ lent
        → write_call query lent ≡ giving lent (length (text_of expr r.tree) ∷ []) (text_of expr r.tree)
    unfolding write_call write_outcome reading lent_text unless
    write_given enough = rw (e, le-leb (length (text_of expr r.tree)) lent enough)

  abbrev WriteEnded : Type 0
  WriteEnded = Ended (OfWriting query lent) (WriteGives query) lent (write_call query lent)

  write_ended : WriteEnded
  write_ended = by_query (query_read query) refl
    where
      fitting : (r : Read) → query_read query ≡ reads r → (t : Bool) → leb (length (text_of expr r.tree)) lent ≡ t
          → WriteEnded
      fitting r a true t =
          let enough : length (text_of expr r.tree) ≤ lent = leb-true _ lent t in
          ended_given _ _ (record { read = r; accepted = a; text = refl; values = refl }) enough
          (write_given r a enough)
      fitting r a false t =
          let long : lent < length (text_of expr r.tree) = leb-false _ lent t in
          ended_refused 8 0 (text_longer r a long refl refl) (write_longer r a long)

      by_query : (m : Reading Read) → query_read query ≡ m → WriteEnded
      by_query (refuses n p) a =
          let three = query_three query n p a in
          ended_refused n p (Page.OfWriting.of_query (three.0, three.1, a)) (write_refused n p a)
      by_query (reads r) a = fitting r a _ refl

  write_to : (n p : ℕ) → OfWriting query lent n p → (write_call query lent).answer ≡ refused n p
  unfolding refusal
  write_to n p (Page.OfWriting.of_query h) = answers_same (write_refused n p h.2)
  write_to n p (text_longer r e long a b) = answers_same (write_longer r e long) ∙ ap₂ refused (sym a) (sym b)

  pub write_whence : Refuses (write_call query lent).answer (OfWriting query lent)
  write_whence = record { comes_from = ended_from _ _ lent _ write_ended; leads_to = write_to }

  pub write_written : (n : ℕ) → (write_call query lent).answer ≡ gives (n ∷ [])
      → (r : Read) × (query_read query ≡ reads r) × (n ≡ length (text_of expr r.tree))
      × ((write_call query lent).left ≡ padded 0 lent (text_of expr r.tree))
  write_written n a =
      let (t, h, left) = ended_gave _ _ lent _ write_ended (n ∷ []) a in
      let values = h.values in
      let long : n ≡ length t = cc in
      (h.read, h.accepted, long ∙ ap length h.text, left ∙ ap (padded 0 lent) h.text)

pub write_cleared : (query : List ℕ) → Cleared 0 (write_call query)
write_cleared query =
    record {
      long = λ lent. ended_long _ _ lent _ (write_ended query lent);
      zeroed = λ lent. ended_zeroed _ _ lent _ (write_ended query lent);
    }

pub write_enough : (query : List ℕ) (r : Read) → query_read query ≡ reads r → (lent : ℕ)
    → length (text_of expr r.tree) ≤ lent
    → (write_call query lent).answer ≡ gives (length (text_of expr r.tree) ∷ [])
write_enough query r e lent enough = answers_same (write_given query lent r e enough)
