-- The five public calls (document 01, 'The eight refusals', 'Room'): for any bytes and any lent length, the answer and
-- what
-- stands in the lent slice afterwards. These are what the calls promise.
--     Answer                 gives its values, in the order that document 01 names them; or refused number place, all
--                            else 0
--     refused_by r           what a refusal answers
--     Outcome A              an answer, and what is left in the lent slice
--     refusal z lent n p     the outcome of a refusal: number and place, and z in all that was lent
--     last_table ts           the last table
--     catalogue_answer, query_answer     the answer of a check, by what was read
--     plan_of lent q          the plan of a query, or 2 at 0, or 8 at 0
--     translate_outcome, run_outcome, evaluate_outcome     the outcome of a call, by what it came to
--     room lent              the cells that count: the first 65,536
--     catalogue_call doc      rows                          4
--     query_call query        records                       1 2 3
--     translate_call ..       operators, plan bytes         1 2 3, then 2 at 0 over 512 operators, then 8 at 0
--     run_call ..             start, rows, cells filled     5, then 4, then 6 and 7
--     evaluate_call ..        items, count                  1 2 3, then 4, then 6 and 7
use Rattle.std.specs.Prelude.{ℕ, zero, suc, ◌+◌, ◌-◌, ◌*◌, min, List, [], ◌∷◌, ◌++◌, Bool, true, false, cond, leb, ℤ, pos, length, replicate}
use Rattle.codes.specs.Limits.{most_operators, most_cells}
use Rattle.codes.specs.Refusals.{number_of}
use Rattle.codes.specs.declared.refusals.Refusal.{Refusal}
use Rattle.laws.specs.Lists.{gather}
use Rattle.laws.specs.Rows.{flat, padded}
use Rattle.laws.specs.Attempt.{Reading, refuses, reads, reading, unless, Work, full, failed, done}
use Rattle.meaning.specs.Catalogue.{Catalogue, catalogue_read}
use Rattle.meaning.specs.World.{World, world_of}
use Rattle.meaning.specs.Query.{Query, Read, query_read}
use Rattle.meaning.specs.Counted.{Standing, evaluate}
use Rattle.meaning.specs.Plan.{Op, Placed, plan_read}
use Rattle.meaning.specs.Operators.{Row, Table}
use Rattle.meaning.specs.Run.{Filled, running}
use Rattle.meaning.specs.Translation.{plan}
use Rattle.meaning.specs.Written.{written}

pub data Answer : Type 0 where
  gives : List ℕ → Answer
  refused : (number place : ℕ) → Answer

abbrev pub refused_by : Refusal → Answer
refused_by r = refused (number_of r.reason) r.place

pub record Outcome (A : Type 0) : Type 0 where
  pub answer : Answer
  pub left : List A

-- a refusal zeroes what was lent for writing
unfoldable pub refusal : {A : Type 0} → A → ℕ → ℕ → ℕ → Outcome A
refusal z lent n p = record { answer = refused n p; left = replicate lent z }

-- only the first 65,536 cells of work count
unfoldable pub room : ℕ → ℕ
room lent = min lent most_cells

unfoldable pub catalogue_answer : Reading Catalogue → Answer
catalogue_answer (refuses n p) = refused n p
catalogue_answer (reads c) = gives (c.rows ∷ [])

unfoldable pub catalogue_call : List ℕ → Answer
catalogue_call doc = catalogue_answer (catalogue_read doc)

unfoldable pub query_answer : Reading Read → Answer
query_answer (refuses n p) = refused n p
query_answer (reads r) = gives (r.records ∷ [])

unfoldable pub query_call : List ℕ → Answer
query_call query = query_answer (query_read query)

-- over 512 operators: 2 at 0; longer than the lent bytes: 8 at 0
unfoldable pub plan_of : ℕ → Query → Reading (List Op)
plan_of lent q =
    unless (leb (length (plan q)) most_operators) 2 0
    (unless (leb (length (written (plan q))) lent) 8 0 (reads (plan q)))

unfoldable pub translate_outcome : ℕ → Reading (List Op) → Outcome ℕ
translate_outcome lent (refuses n p) = refusal 0 lent n p
translate_outcome lent (reads os) =
    record { answer = gives (length os ∷ length (written os) ∷ []); left = padded 0 lent (written os) }

unfoldable pub translate_call : List ℕ → ℕ → Outcome ℕ
translate_call query lent = translate_outcome lent (reading (query_read query) (λ r. plan_of lent r.tree))

unfoldable pub last_table : List Table → Table
last_table [] = []
last_table (t ∷ []) = t
last_table (t ∷ u ∷ ts) = last_table (u ∷ ts)

unfoldable pub run_outcome : ℕ → Reading (Work Filled) → Outcome ℤ
run_outcome lent (refuses n p) = refusal (pos 0) lent n p
run_outcome lent (reads (full p)) = refusal (pos 0) lent 6 p
run_outcome lent (reads (failed p)) = refusal (pos 0) lent 7 p
run_outcome lent (reads (done f)) =
    let rows = length (last_table f.tables) in
    record {
      answer = gives ((f.filled - rows * 3) ∷ rows ∷ f.filled ∷ []);
      left = padded (pos 0) lent (gather flat f.tables);
    }

-- plan, then catalogue, then work
unfoldable pub run_call : List ℕ → List ℕ → ℕ → Outcome ℤ
run_call plan doc lent =
    run_outcome lent
    (reading (plan_read plan) (λ ps. reading (catalogue_read doc) (λ c. reads (running (world_of c) (room lent) ps [] 0))))

unfoldable pub evaluate_outcome : ℕ → Reading (Work Standing) → Outcome ℤ
evaluate_outcome lent (refuses n p) = refusal (pos 0) lent n p
evaluate_outcome lent (reads (full p)) = refusal (pos 0) lent 6 p
evaluate_outcome lent (reads (failed p)) = refusal (pos 0) lent 7 p
evaluate_outcome lent (reads (done s)) =
    record { answer = gives (length s.items ∷ s.count ∷ []); left = padded (pos 0) lent s.items }

-- query, then catalogue, then work
unfoldable pub evaluate_call : List ℕ → List ℕ → ℕ → Outcome ℤ
evaluate_call query doc lent =
    evaluate_outcome lent
    (reading (query_read query)
    (λ r. reading (catalogue_read doc) (λ c. reads (evaluate (world_of c) (room lent) (λ v. []) r.tree))))
