-- What the contracts of the public functions say, from their own text.
--     tell-..           what `tell` leaves
--     contracts         the answer, and what is left, are those of the call
--     decided           two outcomes that a contract allows are equal
--     in_hand           demand 3 of what a caller has in hand
--     back_in_hand      the round trip of what a caller has in hand
--     told_never        what `tell` leaves never holds `same no`
use Rattle.std.specs.Prelude.{Ok}
use Prim.Native.Nat.{ℕ, ◌+◌}
use mathlib.Core.Path.{◌≡◌, refl, sym, ap, ◌∙◌, subst, subst₃}
use mathlib.Core.List.{List, [], ◌∷◌}
use lib.IntN.{ℤ}
use lib.ListN.{length, take}
use Rattle.laws.specs.Rows.{laid, padded}
use Rattle.meaning.specs.Calls.{Answer, gives, translate_call}
use Rattle.agreement.specs.Passing.{HeldOutcome}
use Rattle.agreement.proofs.EngineCalls.{take_padded}
use Rattle.agreement.proofs.EnginesAgree.{agree_in_hand}
use Rattle.catalogue.specs.Answers as Catalogue
use Rattle.catalogue.proofs.Decided as CatalogueDecided
use Rattle.queries.specs.Answers as Queries
use Rattle.queries.proofs.Decided as QueryDecided
use Rattle.translator.specs.Answers as Translator
use Rattle.translator.proofs.Decided as TranslatorDecided
use Rattle.runner.specs.Answers as Runner
use Rattle.runner.proofs.Decided as RunnerDecided
use Rattle.evaluator.specs.Answers as Evaluator
use Rattle.evaluator.proofs.Decided as EvaluatorDecided
use Rattle.grammar.specs.Grammar.{expr}
use Rattle.grammar.specs.Typed.{TypedCall}
use Rattle.grammar.specs.Written.{text_of}
use Rattle.grammar.proofs.Writing.{written_call}
use Rattle.reader.specs.Answers as Reader
use Rattle.reader.proofs.Decided as ReaderDecided
use Rattle.wording.specs.Answers as Writer
use Rattle.wording.proofs.Decided as WriterDecided
use Rattle.lines.specs.Text.{same_no, Nowhere}
use Rattle.lines.specs.Printed.{run_items, printed}
use Rattle.printing.specs.Engines.{planned, plan_run}
use Rattle.answers.specs.Second.{second}
use Rattle.promises.specs.CallContracts.{TellAllows}
use Rattle.promises.specs.Promises.{Contracts, Decides, Demand3InHand, RoundTripInHand}
use Rattle.promises.proofs.TypedCalls.{write_written}

pub contracts : Contracts
contracts =
    record {
      catalogue = λ doc a h. let e = h.contract in cc;
      query = λ query a h. let e = h.contract in cc;
      translate = λ query bytes a bytes' h. let (x, y) = h.contract in record { answers = cc; leaves = cc };
      run = λ plan doc work a work' h. let (x, y) = h.contract in record { answers = cc; leaves = cc };
      evaluate = λ query doc work a work' h. let (x, y) = h.contract in record { answers = cc; leaves = cc };
      read = λ text query a query' h.
          subst₃ (λ (t q q' : List ℕ). TypedCall t (length q) (Reader.outcome a q')) h.of_text h.lent h.left
          h.contract;
      write = λ query text a text' h. let (x, y) = h.contract in record { answers = cc; leaves = cc };
    }

-- what `tell` leaves, by its query, its catalogue and what it was lent
module _ (query doc : List ℕ) (work kept : List ℤ) (text : List ℕ) (n : ℕ) (plan' : List ℕ) (work' kept' : List ℤ)
    (text' : List ℕ) (h : TellAllows query doc work kept text n plan' work' kept' text') where
  tell_end : n ≡ 0 + length (printed doc query)
  tell_end = let e = h.contract.put.ended in cc

  tell_text : text' ≡ laid text 0 (printed doc query)
  tell_text = let e = h.contract.put.written in cc

  tell_plan : plan' ≡ (translate_call query 6144).left
  tell_plan = let e = h.contract.plan in cc

  tell_cells : work'
      ≡ planned (translate_call query 6144).answer
      (second (plan_run query doc).answer (plan_run query doc).left query doc).left work
  tell_cells = let e = h.contract.cells in cc

  tell_items : kept'
      ≡ planned (translate_call query 6144).answer (laid kept 0 (run_items (plan_run query doc))) kept
  tell_items = let e = h.contract.items in cc

pub decided : Decides
decided =
    record {
      catalogue = λ doc a b h k.
          CatalogueDecided.same_answer a b (contracts.catalogue doc a h ∙ sym (contracts.catalogue doc b k));
      query = λ query a b h k.
          QueryDecided.same_answer a b (contracts.query query a h ∙ sym (contracts.query query b k));
      translate = λ query bytes a b xs ys h k.
          let x = contracts.translate query bytes a xs h in
          let y = contracts.translate query bytes b ys k in
          (TranslatorDecided.same_answer a b (x.answers ∙ sym y.answers), x.leaves ∙ sym y.leaves);
      run = λ plan doc work a b xs ys h k.
          let x = contracts.run plan doc work a xs h in
          let y = contracts.run plan doc work b ys k in
          (RunnerDecided.same_answer a b (x.answers ∙ sym y.answers), x.leaves ∙ sym y.leaves);
      evaluate = λ query doc work a b xs ys h k.
          let x = contracts.evaluate query doc work a xs h in
          let y = contracts.evaluate query doc work b ys k in
          (EvaluatorDecided.same_answer a b (x.answers ∙ sym y.answers), x.leaves ∙ sym y.leaves);
      read = λ text query a b xs ys h k.
          ReaderDecided.decided text (length query) a b xs ys (contracts.read text query a xs h)
          (contracts.read text query b ys k);
      write = λ query text a b xs ys h k.
          let x = contracts.write query text a xs h in
          let y = contracts.write query text b ys k in
          (WriterDecided.same_answer a b (x.answers ∙ sym y.answers), x.leaves ∙ sym y.leaves);
      tell = λ query doc work kept text n m ps qs ws xs ks ls ts us h k. (
        tell_end query doc work kept text n ps ws ks ts h ∙ sym (tell_end query doc work kept text m qs xs ls us k),
        tell_plan query doc work kept text n ps ws ks ts h ∙ sym (tell_plan query doc work kept text m qs xs ls us k),
        tell_cells query doc work kept text n ps ws ks ts h
            ∙ sym (tell_cells query doc work kept text m qs xs ls us k),
        tell_items query doc work kept text n ps ws ks ts h
            ∙ sym (tell_items query doc work kept text m qs xs ls us k),
        tell_text query doc work kept text n ps ws ks ts h ∙ sym (tell_text query doc work kept text m qs xs ls us k),
      );
    }

pub in_hand : Demand3InHand
unfolding Translator.answered Catalogue.answered
in_hand query doc bytes bytes' work work' cells cells' r e n m rows small ht hk hr not-run he not-evaluation =
    agree_in_hand query doc bytes' work' cells' (gives (n ∷ m ∷ [])) (gives (rows ∷ [])) (Runner.answered r)
    (Evaluator.answered e) _ _ _ n m rows small (contracts.translate query bytes _ bytes' ht) refl
    (contracts.catalogue doc _ hk) refl (contracts.run (take m bytes') doc work r work' hr) not-run
    (contracts.evaluate query doc cells e cells' he) not-evaluation

-- the text's bytes are the query's text, and of that the call has one outcome
pub back_in_hand : RoundTripInHand
unfolding Writer.answered Reader.answered
back_in_hand query text text' bytes bytes' n a small hw hr enough =
    let w = contracts.write query text (Ok n) text' hw in
    let (r, e, long, left) = write_written query (length text) n (sym w.answers) in
    let t : List ℕ = text_of expr r.tree in
    let held : take n text' ≡ t =
    ap (take n) (w.leaves ∙ left) ∙ take_padded 0 (length text) t n long
    in
    let back : TypedCall t (length bytes) (Reader.outcome a bytes') =
    subst (λ (x : List ℕ). TypedCall x (length bytes) (Reader.outcome a bytes')) held
    (contracts.read (take n text') bytes a bytes' hr)
    in
    let same =
    ReaderDecided.decided t (length bytes) a (Ok (record { records = r.records; bytes = length query })) bytes'
    (padded 0 (length bytes) query) back (written_call query r (length bytes) small e enough)
    in
    (r, e, same.0, same.1)

pub told_never : (query doc : List ℕ) (work kept : List ℤ) (text : List ℕ) (n : ℕ) (plan' : List ℕ)
    (work' kept' : List ℤ) (text' : List ℕ) → TellAllows query doc work kept text n plan' work' kept' text'
    → (take n text' ≡ printed doc query) × Nowhere same_no (take n text')
told_never query doc work kept text n plan' work' kept' text' h =
    let e = h.contract.prints in (
      cc,
      subst (λ (xs : List ℕ). Nowhere same_no (take n xs)) h.left_text h.contract.never_no,
    )
