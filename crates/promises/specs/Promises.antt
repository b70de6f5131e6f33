-- What the calls promise, on one page: statements only; proofs/Promises.antt cites a proof of each. The calls are those
-- of crates/meaning/specs/Calls.antt and, for typed queries, of crates/grammar/specs (Typed.antt, Written.antt). What
-- passes its checks, and what an answer says, is worded in crates/agreement/specs/Passing.antt; how a contract is
-- cited, in specs/CallContracts.antt. That a call ends is no statement here: Rattle proves it of every function.
--     Refuses a from          answer a is a refusal with number n at p exactly where `from n p`
--     OfCatalogue, OfQuery    where the refusals of each call come from: 4; 1 2 3
--     OfTranslation           .. 1 2 3 of the query, 2 at 0 over 512 operators, then 8 at 0
--     OfRun, OfEvaluation     .. 5, 4, 6 and 7; 1 2 3, 4, 6 and 7
--     Demand1                 each call refuses by these, and by no other; a refusal leaves zeros
--     Demand2                 an answer is what the definitions say: the plan, the tables, the items; 7 where they fail
--     Demand3                 both engines on one query, in any room, if neither answers 6
--     RoomSentence            6 exactly where the count passes the room, and the counts that are answered
--     Contracts               what each public function's own `ensures` tells its caller: the outcome of its call
--     Decides                 two outcomes that such a contract allows are equal
--     Demand3InHand           demand 3 of the answers and cells that a caller of translate, run and evaluate has in
--                             hand
--     OrderFree               no plan that the translator writes leans on how the rows of its tables stand
--     NeverNo                 the bytes `same no` stand nowhere in what `chartask` prints
--     Cells cs                every member is a 64-bit cell
--     Engine, Keeps call f    an engine; it keeps the contract of a call
--     Evaluations, Runs       what it always answers and leaves, on input that passes its checks
--     first_alone_of              a run of the first operator alone
--     ShutOut                 the engines that document 01 shuts out
--     OneReading              typed queries: one reading; a text is typed or outside, never both, at one place
--     OfReading, OfWriting    where the refusals of `read` and `write` come from: 9, 2 3, then 8 at 0; 1 2 3, then 8
--                             at 0
--     TypedRefusals           each refuses by these, and by no other; a refusal leaves zeros
--     TypedAnswers            an answer is what the definitions say: the text's records, the query's text
--     RoundTrip               a query's text is read as that query
--     RoundTripInHand         .. of the bytes that a caller of write, then read, has in hand
use Rattle.std.specs.Prelude.{ℕ, ◌-◌, ◌*◌, ◌≤◌, ◌<◌, ◌≡◌, ◌⊎◌, List, [], ◌∷◌, ℤ, pos, length, take, get_or}
use Rattle.std.specs.Int.{w64}
use Rattle.std.proofs.Common.{SFits}
use Rattle.cells.specs.Bytes.{Bytes}
use Rattle.laws.specs.Rows.{padded}
use Rattle.laws.specs.Attempt.{fails, refuses, reads, reading, full, failed}
use Rattle.laws.specs.Attempt as Attempt
use Rattle.meaning.specs.Catalogue.{catalogue_read}
use Rattle.meaning.specs.World.{world_of}
use Rattle.meaning.specs.Query.{Read, query_read}
use Rattle.meaning.specs.Plan.{Placed, plan_read}
use Rattle.meaning.specs.Operators.{Table}
use Rattle.meaning.specs.Run.{Hand, running, running_by}
use Rattle.meaning.specs.Translation.{plan}
use Rattle.meaning.specs.Written.{written}
use Rattle.meaning.specs.Calls.{Answer, gives, refused, Outcome, room, last_table, run_outcome}
use Rattle.meaning.specs.Calls.{catalogue_call, query_call, translate_call, run_call, evaluate_call}
use Rattle.catalogue.specs.Answers as Catalogue
use Rattle.queries.specs.Answers as Queries
use Rattle.translator.specs.Answers as Translator
use Rattle.runner.specs.Answers as Runner
use Rattle.evaluator.specs.Answers as Evaluator
use Rattle.grammar.specs.Grammar.{expr}
use Rattle.grammar.specs.Typed.{Typed, Outside, TypedCall}
use Rattle.grammar.specs.Written.{text_of, write_call}
use Rattle.reader.specs.Answers as Reader
use Rattle.wording.specs.Answers as Writer
use Rattle.lines.specs.Text.{same_no, Nowhere}
use Rattle.lines.specs.Printed.{printed}
use Rattle.promises.specs.CallContracts.{Catalogued, Checked, Translated, Ran, Evaluated, Typed as TypedRead, Written}
use Rattle.promises.specs.CallContracts.{Rows, Plan, Records, Text}
use Rattle.promises.specs.CallContracts.{CatalogueAllows, QueryAllows, TranslateAllows, RunAllows, EvaluateAllows}
use Rattle.promises.specs.CallContracts.{ReadAllows, WriteAllows, TellAllows}
use Rattle.agreement.specs.Passing.{Passed, means, stands, evaluation, PlanPassed, makes, fills, the_run, Refused}
use Rattle.order.specs.Shuffled.{Shuffles}
use Rattle.order.specs.Order.{Unmoved}
use Rattle.agreement.specs.Passing.{Cleared, StoodTables, Alike, HeldOutcome, SixBelow}

-- DEMAND 1. Whatever the bytes and whatever is lent: which refusals there are and where each comes from. A refusal
-- zeroes what was lent for writing; a slice keeps its length

pub record Refuses (answer : Answer) (from : ℕ → ℕ → Type 0) : Type 0 where
  pub comes_from : (n p : ℕ) → answer ≡ refused n p → from n p
  pub leads_to : (n p : ℕ) → from n p → answer ≡ refused n p

abbrev pub OfCatalogue : List ℕ → ℕ → ℕ → Type 0
OfCatalogue doc n p = (n ≡ 4) × (catalogue_read doc ≡ refuses n p)

abbrev pub OfQuery : List ℕ → ℕ → ℕ → Type 0
OfQuery query n p = (1 ≤ n) × (n ≤ 3) × (query_read query ≡ refuses n p)

pub data OfTranslation (query : List ℕ) (lent n p : ℕ) : Type 0 where
  of_query : OfQuery query n p → OfTranslation query lent n p
  too_many : (r : Read) → query_read query ≡ reads r → 512 < length (plan r.tree) → n ≡ 2 → p ≡ 0
      → OfTranslation query lent n p
  longer : (r : Read) → query_read query ≡ reads r → length (plan r.tree) ≤ 512
      → lent < length (written (plan r.tree)) → n ≡ 8 → p ≡ 0 → OfTranslation query lent n p

pub data OfRun (bytes doc : List ℕ) (lent n p : ℕ) : Type 0 where
  of_plan : n ≡ 5 → plan_read bytes ≡ refuses n p → OfRun bytes doc lent n p
  of_catalogue : (ps : List Placed) → plan_read bytes ≡ reads ps → OfCatalogue doc n p → OfRun bytes doc lent n p
  no_room : (i : PlanPassed bytes doc) → the_run i lent ≡ full p → n ≡ 6 → OfRun bytes doc lent n p
  failing : (i : PlanPassed bytes doc) → the_run i lent ≡ failed p → n ≡ 7 → OfRun bytes doc lent n p

pub data OfEvaluation (query doc : List ℕ) (lent n p : ℕ) : Type 0 where
  of_query : OfQuery query n p → OfEvaluation query doc lent n p
  of_catalogue : (r : Read) → query_read query ≡ reads r → OfCatalogue doc n p → OfEvaluation query doc lent n p
  no_room : (i : Passed query doc) → evaluation i lent ≡ full p → n ≡ 6 → OfEvaluation query doc lent n p
  failing : (i : Passed query doc) → evaluation i lent ≡ failed p → n ≡ 7 → OfEvaluation query doc lent n p

pub record Demand1 : Type 0 where
  pub catalogue_refuses : (doc : List ℕ) → Refuses (catalogue_call doc) (OfCatalogue doc)
  pub query_refuses : (query : List ℕ) → Refuses (query_call query) (OfQuery query)
  pub translate_refuses : (query : List ℕ) (lent : ℕ)
      → Refuses (translate_call query lent).answer (OfTranslation query lent)
  pub run_refuses : (bytes doc : List ℕ) (lent : ℕ) → Refuses (run_call bytes doc lent).answer (OfRun bytes doc lent)
  pub evaluate_refuses : (query doc : List ℕ) (lent : ℕ)
      → Refuses (evaluate_call query doc lent).answer (OfEvaluation query doc lent)
  pub translate_clears : (query : List ℕ) → Cleared 0 (translate_call query)
  pub run_clears : (bytes doc : List ℕ) → Cleared (pos 0) (run_call bytes doc)
  pub evaluate_clears : (query doc : List ℕ) → Cleared (pos 0) (evaluate_call query doc)

-- DEMAND 2. What an answer says is what the definitions say, and what they say is answered: the plan where there are at
-- most 512 operators and enough bytes are lent, tables and items where there is enough room (else 6: the sentence on
-- room)

pub record Demand2 : Type 0 where
  pub translate_gives : (query : List ℕ) (r : Read) → query_read query ≡ reads r → (lent : ℕ)
      → length (plan r.tree) ≤ 512 → length (written (plan r.tree)) ≤ lent
      → (translate_call query lent).answer ≡ gives (length (plan r.tree) ∷ length (written (plan r.tree)) ∷ [])
  pub translate_gave : (query : List ℕ) (r : Read) → query_read query ≡ reads r → (lent n m : ℕ)
      → (translate_call query lent).answer ≡ gives (n ∷ m ∷ [])
      → (n ≡ length (plan r.tree)) × (m ≡ length (written (plan r.tree)))
      × ((translate_call query lent).left ≡ padded 0 lent (written (plan r.tree)))
  pub run_gives : (bytes doc : List ℕ) (i : PlanPassed bytes doc) (lent : ℕ) → fills i ≤ room lent
      → (ts : List Table) → makes i ≡ Attempt.gives ts
      → (run_call bytes doc lent).answer
      ≡ gives ((fills i - length (last_table ts) * 3) ∷ length (last_table ts) ∷ fills i ∷ [])
  pub run_gave : (bytes doc : List ℕ) (i : PlanPassed bytes doc) (lent start rows filled : ℕ)
      → (run_call bytes doc lent).answer ≡ gives (start ∷ rows ∷ filled ∷ [])
      → (ts : List Table) × (makes i ≡ Attempt.gives ts)
      × StoodTables ts lent (run_call bytes doc lent).left start rows filled
  pub run_fails : (bytes doc : List ℕ) (i : PlanPassed bytes doc) (lent : ℕ) → fills i ≤ room lent
      → makes i ≡ fails → Refused 7 (run_call bytes doc lent).answer
  pub run_failed : (bytes doc : List ℕ) (i : PlanPassed bytes doc) (lent : ℕ)
      → Refused 7 (run_call bytes doc lent).answer → makes i ≡ fails
  pub evaluate_gives : (query doc : List ℕ) (i : Passed query doc) (lent : ℕ) → stands i ≤ room lent
      → (items : List ℤ) → means i ≡ Attempt.gives items
      → (evaluate_call query doc lent).answer ≡ gives (length items ∷ stands i ∷ [])
  pub evaluate_gave : (query doc : List ℕ) (i : Passed query doc) (lent n count : ℕ)
      → (evaluate_call query doc lent).answer ≡ gives (n ∷ count ∷ [])
      → (items : List ℤ) × (means i ≡ Attempt.gives items) × (n ≡ length items)
      × ((evaluate_call query doc lent).left ≡ padded (pos 0) lent items)
  pub evaluate_fails : (query doc : List ℕ) (i : Passed query doc) (lent : ℕ) → stands i ≤ room lent
      → means i ≡ fails → Refused 7 (evaluate_call query doc lent).answer
  pub evaluate_failed : (query doc : List ℕ) (i : Passed query doc) (lent : ℕ)
      → Refused 7 (evaluate_call query doc lent).answer → means i ≡ fails

-- DEMAND 3. For every query bytes and catalogue bytes that pass their checks, with a plan of at most 512 operators that
-- the lent bytes hold, and any room lent to each engine: if neither the run of the written plan nor the evaluation
-- answers 6, then both answer 7, or both give the same items in the same order: those that the query means

abbrev pub Demand3 : Type 0
Demand3 =
    (query doc : List ℕ) → Bytes query → (i : Passed query doc) (lent forRun forEvaluation n m : ℕ)
    → (translate_call query lent).answer ≡ gives (n ∷ m ∷ [])
    → ¬ (Refused 6 (run_call (take m (translate_call query lent).left) doc forRun).answer)
    → ¬ (Refused 6 (evaluate_call query doc forEvaluation).answer)
    → Alike (means i) (run_call (take m (translate_call query lent).left) doc forRun)
    (evaluate_call query doc forEvaluation)

-- ORDER. No plan that the translator writes leans on how the rows of a table stand. Let a hand put the rows of every
-- table, as it is made, in any order whatever: the run still answers 6 or 7 at the same operator, or fills as many
-- cells with the same rows in each table; and the items by rising place of its last table are what the query means

abbrev pub OrderFree : Type 0
OrderFree =
    (query doc : List ℕ) → Bytes query → (i : Passed query doc) (lent n m : ℕ)
    → (translate_call query lent).answer ≡ gives (n ∷ m ∷ [])
    → (ps : List Placed) → plan_read (take m (translate_call query lent).left) ≡ reads ps
    → (room : ℕ) (hand : Hand) → Shuffles hand
    → Unmoved (means i) (running (world_of i.catalogue) room ps [] 0)
    (running_by hand (world_of i.catalogue) room ps [] 0)

-- ROOM. Each engine answers 6 exactly when its count passes the smaller of the lent cells and 65,536 before anything
-- has failed; with more room its answer is one and the same; and the count that it answers is that count

pub record RoomSentence : Type 0 where
  pub runner : (bytes doc : List ℕ) (i : PlanPassed bytes doc) → SixBelow (fills i) (run_call bytes doc)
  pub filled_is : (bytes doc : List ℕ) (i : PlanPassed bytes doc) (lent start rows filled : ℕ)
      → (run_call bytes doc lent).answer ≡ gives (start ∷ rows ∷ filled ∷ []) → filled ≡ fills i
  pub evaluator : (query doc : List ℕ) (i : Passed query doc) → SixBelow (stands i) (evaluate_call query doc)
  pub count_is : (query doc : List ℕ) (i : Passed query doc) (lent items count : ℕ)
      → (evaluate_call query doc lent).answer ≡ gives (items ∷ count ∷ []) → count ≡ stands i

-- CONTRACTS. What each public function's own `ensures` tells its caller: the answer, and all that was lent for
-- writing, are those of its call. The call of `read` is a relation over the grammar, `TypedCall`

pub record Contracts : Type 0 where
  pub catalogue : (doc : List ℕ) (a : Catalogued) → CatalogueAllows doc a → Catalogue.answered a ≡ catalogue_call doc
  pub query : (query : List ℕ) (a : Checked) → QueryAllows query a → Queries.answered a ≡ query_call query
  pub translate : (query bytes : List ℕ) (a : Translated) (bytes' : List ℕ) → TranslateAllows query bytes a bytes'
      → HeldOutcome (translate_call query (length bytes)) (Translator.answered a) bytes'
  pub run : (plan doc : List ℕ) (work : List ℤ) (a : Ran) (work' : List ℤ) → RunAllows plan doc work a work'
      → HeldOutcome (run_call plan doc (length work)) (Runner.answered a) work'
  pub evaluate : (query doc : List ℕ) (work : List ℤ) (a : Evaluated) (work' : List ℤ)
      → EvaluateAllows query doc work a work'
      → HeldOutcome (evaluate_call query doc (length work)) (Evaluator.answered a) work'
  pub read : (text query : List ℕ) (a : TypedRead) (query' : List ℕ) → ReadAllows text query a query'
      → TypedCall text (length query) (record { answer = Reader.answered a; left = query' })
  pub write : (query text : List ℕ) (a : Written) (text' : List ℕ) → WriteAllows query text a text'
      → HeldOutcome (write_call query (length text)) (Writer.answered a) text'

-- DECIDED. They leave no choice: neither in the answer nor in any byte or cell that was lent

pub record Decides : Type 0 where
  pub catalogue : (doc : List ℕ) (a b : Catalogued) → CatalogueAllows doc a → CatalogueAllows doc b → a ≡ b
  pub query : (query : List ℕ) (a b : Checked) → QueryAllows query a → QueryAllows query b → a ≡ b
  pub translate : (query bytes : List ℕ) (a b : Translated) (xs ys : List ℕ) → TranslateAllows query bytes a xs
      → TranslateAllows query bytes b ys → (a ≡ b) × (xs ≡ ys)
  pub run : (plan doc : List ℕ) (work : List ℤ) (a b : Ran) (xs ys : List ℤ) → RunAllows plan doc work a xs
      → RunAllows plan doc work b ys → (a ≡ b) × (xs ≡ ys)
  pub evaluate : (query doc : List ℕ) (work : List ℤ) (a b : Evaluated) (xs ys : List ℤ)
      → EvaluateAllows query doc work a xs → EvaluateAllows query doc work b ys → (a ≡ b) × (xs ≡ ys)
  pub read : (text query : List ℕ) (a b : TypedRead) (xs ys : List ℕ) → ReadAllows text query a xs
      → ReadAllows text query b ys → (a ≡ b) × (xs ≡ ys)
  pub write : (query text : List ℕ) (a b : Written) (xs ys : List ℕ) → WriteAllows query text a xs
      → WriteAllows query text b ys → (a ≡ b) × (xs ≡ ys)
  -- .. and `tell`, which `chartask` prints from: the text's end, the plan's bytes, the cells, the kept items, the text
  pub tell : (query doc : List ℕ) (work kept : List ℤ) (text : List ℕ) (n m : ℕ) (ps qs : List ℕ)
      (ws xs ks ls : List ℤ) (ts us : List ℕ) → TellAllows query doc work kept text n ps ws ks ts
      → TellAllows query doc work kept text m qs xs ls us
      → (n ≡ m) × (ps ≡ qs) × (ws ≡ xs) × (ks ≡ ls) × (ts ≡ us)

-- DEMAND 3 in hand, for whoever calls translate, then run with the plan's bytes and evaluate with the query, each with
-- the same catalogue, and reads their contracts; what is primed is what a lent slice holds afterwards

abbrev pub Demand3InHand : Type 0
Demand3InHand =
    (query doc bytes bytes' : List ℕ) (work work' cells cells' : List ℤ) (r : Ran) (e : Evaluated) (n m : ℕ)
    (sound : ℕ) → Bytes query
    → TranslateAllows query bytes (Plan n m) bytes' → CatalogueAllows doc (Rows sound)
    → RunAllows (take m bytes') doc work r work' → ¬ (Refused 6 (Runner.answered r))
    → EvaluateAllows query doc cells e cells' → ¬ (Refused 6 (Evaluator.answered e))
    → (i : Passed query doc)
    × Alike (means i) (record { answer = Runner.answered r; left = work' })
    (record { answer = Evaluator.answered e; left = cells' })

-- NEVER `same no`. The bytes of these two words stand nowhere in what `chartask` prints, whatever its two files hold:
-- in the text of the definitions, and in what `tell`, which writes it, leaves in the slice that `chartask` writes out

pub record NeverNo : Type 0 where
  pub printed_text : (doc query : List ℕ) → Bytes query → Nowhere same_no (printed doc query)
  pub told_text : (query doc : List ℕ) (work kept : List ℤ) (text : List ℕ) (n : ℕ) (plan' : List ℕ)
      (work' kept' : List ℤ) (text' : List ℕ) → TellAllows query doc work kept text n plan' work' kept' text'
      → (take n text' ≡ printed doc query) × Nowhere same_no (take n text')

-- SHUT OUT. Engines that document 01 names, on input that passes its checks: none keeps the contract of its call. A
-- contract of Rattle speaks of bytes and of 64-bit cells, and of no other lists

abbrev pub Cells : List ℤ → Type 0
Cells cs = (i : ℕ) → SFits w64 (get_or cs i (pos 0))

-- an engine's answer, and what it leaves of cells that it is lent as they stand
abbrev pub Engine : Type 0
Engine = List ℕ → List ℕ → List ℤ → Outcome ℤ

abbrev pub Keeps : (List ℕ → List ℕ → ℕ → Outcome ℤ) → Engine → Type 0
Keeps call f =
    (bytes doc : List ℕ) (cells : List ℤ) → Bytes bytes → Bytes doc → Cells cells
    → HeldOutcome (call bytes doc (length cells)) (f bytes doc cells).answer (f bytes doc cells).left

-- what every evaluation, or every run, answers and leaves
abbrev pub Evaluations : Engine → (List ℤ → Outcome ℤ → Type 0) → Type 0
Evaluations f P =
    (query doc : List ℕ) → Passed query doc → (cells : List ℤ) → Bytes query → Bytes doc → Cells cells
    → P cells (f query doc cells)

abbrev pub Runs : Engine → (List ℤ → Outcome ℤ → Type 0) → Type 0
Runs f P =
    (bytes doc : List ℕ) → PlanPassed bytes doc → (cells : List ℤ) → Bytes bytes → Bytes doc → Cells cells
    → P cells (f bytes doc cells)

-- the first operator alone
unfoldable pub first_alone_of : List ℕ → List ℕ → ℕ → Outcome ℤ
first_alone_of bytes doc lent =
    run_outcome lent
    (reading (plan_read bytes)
    (λ ps. reading (catalogue_read doc) (λ c. reads (running (world_of c) (room lent) (take 1 ps) [] 0))))

pub record ShutOut (f : Engine) : Type 0 where
  pub always_7 : Evaluations f (λ cells o. Refused 7 o.answer) → ¬ (Keeps evaluate_call f)
  pub runs_7 : Runs f (λ cells o. Refused 7 o.answer) → ¬ (Keeps run_call f)
  pub always_empty : Evaluations f (λ cells o. (count : ℕ) × (o.answer ≡ gives (0 ∷ count ∷ [])))
      → ¬ (Keeps evaluate_call f)
  pub runs_empty : Runs f (λ cells o. (start filled : ℕ) × (o.answer ≡ gives (start ∷ 0 ∷ filled ∷ [])))
      → ¬ (Keeps run_call f)
  pub writes_nothing : Evaluations f (λ cells o. o.left ≡ cells) → ¬ (Keeps evaluate_call f)
  pub runs_write_nothing : Runs f (λ cells o. o.left ≡ cells) → ¬ (Keeps run_call f)
  pub first_alone :
      ((bytes doc : List ℕ) (cells : List ℤ) → Bytes bytes → Bytes doc → Cells cells
      → f bytes doc cells ≡ first_alone_of bytes doc (length cells))
      → ¬ (Keeps run_call f)
  -- a count other than the definitions', on one input that passes its checks
  pub invented_count : (query doc : List ℕ) (i : Passed query doc) (cells : List ℤ) → Bytes query → Bytes doc
      → Cells cells → (items count : ℕ) → (f query doc cells).answer ≡ gives (items ∷ count ∷ [])
      → ¬ (count ≡ stands i) → ¬ (Keeps evaluate_call f)
  pub invented_cells : (bytes doc : List ℕ) (i : PlanPassed bytes doc) (cells : List ℤ) → Bytes bytes → Bytes doc
      → Cells cells → (start rows filled : ℕ) → (f bytes doc cells).answer ≡ gives (start ∷ rows ∷ filled ∷ [])
      → ¬ (filled ≡ fills i) → ¬ (Keeps run_call f)

-- TYPED QUERIES (document 02, L1). The grammar, crates/grammar/specs/Grammar.antt, is written down without a reader. A
-- text is typed, `Typed text bs`, if it spells the words of a part, and bs are the part's records; it is outside at p,
-- `Outside text p`, if it spells none, and p is its first byte that no text of the grammar could have there, or its
-- length. The reading is the only one; a text is typed or outside, never both, and outside at one place alone. At most
-- 32 grouping parentheses are open at once: that is in the type of a text's part, `Part expr most_groups`, where each
-- pair takes one of the 32

pub record OneReading : Type 0 where
  pub only : (text bs bs' : List ℕ) → Typed text bs → Typed text bs' → bs ≡ bs'
  pub typed_or_outside : (text : List ℕ) → ((bs : List ℕ) × Typed text bs) ⊎ ((p : ℕ) × Outside text p)
  pub never_both : (text bs : List ℕ) (p : ℕ) → Typed text bs → ¬ (Outside text p)
  pub one_place : (text : List ℕ) (p q : ℕ) → Outside text p → Outside text q → p ≡ q

-- THEIR REFUSALS, whatever the text or the query and whatever is lent. Reading: 9 exactly for the texts outside, at
-- that place; then 2 or 3, and never 1, where the check of the records refuses so, at its place; then 8 at 0 where they
-- are longer than what was lent. Writing: those of the query check; then 8 at 0 where the text is longer than what was
-- lent. A refusal zeroes what was lent for writing; a slice keeps its length

pub data OfReading (text : List ℕ) (lent n p : ℕ) : Type 0 where
  of_grammar : Outside text p → n ≡ 9 → OfReading text lent n p
  of_records : (bs : List ℕ) → Typed text bs → 2 ≤ n → n ≤ 3 → query_read bs ≡ refuses n p → OfReading text lent n p
  records_longer : (bs : List ℕ) → Typed text bs → (r : Read) → query_read bs ≡ reads r → lent < length bs → n ≡ 8
      → p ≡ 0 → OfReading text lent n p

pub data OfWriting (query : List ℕ) (lent n p : ℕ) : Type 0 where
  of_query : OfQuery query n p → OfWriting query lent n p
  text_longer : (r : Read) → query_read query ≡ reads r → lent < length (text_of expr r.tree) → n ≡ 8 → p ≡ 0
      → OfWriting query lent n p

pub record TypedRefusals : Type 0 where
  pub read_refuses : (text : List ℕ) (lent : ℕ) (o : Outcome ℕ) → TypedCall text lent o
      → Refuses o.answer (OfReading text lent)
  pub read_clears : (text : List ℕ) (call : ℕ → Outcome ℕ) → ((lent : ℕ) → TypedCall text lent (call lent))
      → Cleared 0 call
  pub write_refuses : (query : List ℕ) (lent : ℕ) → Refuses (write_call query lent).answer (OfWriting query lent)
  pub write_clears : (query : List ℕ) → Cleared 0 (write_call query)

-- THEIR ANSWERS. What an answer says is what the definitions say, and what they say is answered where enough bytes are
-- lent: the records that a text is read as, the text of a query, zeros after each. Every text has an outcome

pub record TypedAnswers : Type 0 where
  pub read_answers : (text : List ℕ) (lent : ℕ) → (o : Outcome ℕ) × TypedCall text lent o
  pub read_gives : (text bs : List ℕ) → Typed text bs → (r : Read) → query_read bs ≡ reads r → (lent : ℕ)
      → length bs ≤ lent → (o : Outcome ℕ) → TypedCall text lent o
      → o ≡ record { answer = gives (r.records ∷ length bs ∷ []); left = padded 0 lent bs }
  pub read_gave : (text : List ℕ) (lent : ℕ) (o : Outcome ℕ) → TypedCall text lent o → (n m : ℕ)
      → o.answer ≡ gives (n ∷ m ∷ [])
      → (bs : List ℕ) × (r : Read) × Typed text bs × (query_read bs ≡ reads r) × (n ≡ r.records) × (m ≡ length bs)
      × (o.left ≡ padded 0 lent bs)
  pub write_gives : (query : List ℕ) (r : Read) → query_read query ≡ reads r → (lent : ℕ)
      → length (text_of expr r.tree) ≤ lent
      → (write_call query lent).answer ≡ gives (length (text_of expr r.tree) ∷ [])
  pub write_gave : (query : List ℕ) (lent n : ℕ) → (write_call query lent).answer ≡ gives (n ∷ [])
      → (r : Read) × (query_read query ≡ reads r) × (n ≡ length (text_of expr r.tree))
      × ((write_call query lent).left ≡ padded 0 lent (text_of expr r.tree))

-- ROUND TRIP. The text of an accepted query is typed, and read as that query's own bytes

abbrev pub RoundTrip : Type 0
RoundTrip =
    (query : List ℕ) → Bytes query → (r : Read) → query_read query ≡ reads r → Typed (text_of expr r.tree) query

-- ROUND TRIP in hand, for whoever calls write, then read with the text's bytes, lends at least as many bytes as the
-- query has, and reads their contracts: the query was accepted, and its records are back, zeros after them

abbrev pub RoundTripInHand : Type 0
RoundTripInHand =
    (query text text' bytes bytes' : List ℕ) (n : ℕ) (a : TypedRead) → Bytes query
    → WriteAllows query text (Text n) text'
    → ReadAllows (take n text') bytes a bytes' → length query ≤ length bytes
    → (r : Read) × (query_read query ≡ reads r) × (a ≡ Records r.records (length query))
    × (bytes' ≡ padded 0 (length bytes) query)
