-- The marked examples of document 01 ('Marked examples'), as one table and one statement, over bytes. Where an engine
-- is meant both are asked: the evaluator on the query's bytes, the runner on the bytes of the translated plan.
--     integer, boolean, sequence ..     the bytes of a query record, its operands after it
--     row size level kind prop          the bytes of a catalogue row
--     Ask                               a question to the calls: a query's items, its plan's size, its run or its
--                                       evaluation in so many lent cells
--     ToldAnswer                        what the calls tell
--     told ask                          the calls' answers to a question
--     examples                          the table: a question, and what must be told
--     marked                            every question is told what the table says
--     repeated_rows_stay                RD keeps repeated rows
use Prim.Native.Nat.{ℕ, zero, suc, ◌-◌}
use mathlib.Core.Path.{◌≡◌, refl}
use mathlib.Core.List.{List, [], ◌∷◌, ◌++◌, map}
use lib.IntN.{ℤ, pos, negsuc}
use lib.ListN.{take, drop, get_or}
use Rattle.codes.specs.Codes as Codes
use Rattle.laws.specs.Lists as Lists
use Rattle.laws.specs.Rows as Rows
use Rattle.laws.specs.Sorting as Sorting
use Rattle.cells.specs.Cell as Cell
use Rattle.cells.specs.Bytes as Bytes
use Rattle.laws.specs.Attempt as Attempt
use Rattle.meaning.specs.Catalogue as Catalogue
use Rattle.meaning.specs.World as World
use Rattle.meaning.specs.Query as Query
use Rattle.meaning.specs.Meaning as Meaning
use Rattle.meaning.specs.Counted as Counted
use Rattle.meaning.specs.Plan as Plan
use Rattle.meaning.specs.Operators as Operators
use Rattle.meaning.specs.Run as Run
use Rattle.meaning.specs.Translation as Translation
use Rattle.meaning.specs.Written as Written
use Rattle.meaning.specs.Calls as Calls

-- Query records

integer : ℤ → List ℕ
integer (pos n) = 0x51 ∷ 0x4C ∷ Bytes.bytes_of 4 n
integer (negsuc n) = 0x51 ∷ 0x4C ∷ Bytes.bytes_of 4 (0xffff_ffff - n)

boolean : ℕ → List ℕ
boolean b = 0x51 ∷ 0x42 ∷ b ∷ []

empty : List ℕ
empty = 0x51 ∷ 0x45 ∷ []

root : ℕ → List ℕ
root k = 0x51 ∷ 0x52 ∷ k ∷ []

variable : ℕ → List ℕ
variable v = 0x51 ∷ 0x56 ∷ v ∷ []

sequence : List ℕ → List ℕ → List ℕ
sequence a b = 0x51 ∷ 0x53 ∷ (a ++ b)

letting : ℕ → List ℕ → List ℕ → List ℕ
letting v a b = 0x51 ∷ 0x54 ∷ v ∷ (a ++ b)

for : ℕ → List ℕ → List ℕ → List ℕ
for v a b = 0x51 ∷ 0x46 ∷ v ∷ (a ++ b)

choice : List ℕ → List ℕ → List ℕ → List ℕ
choice c a b = 0x51 ∷ 0x49 ∷ (c ++ a ++ b)

function : ℕ → List ℕ → List ℕ → List ℕ
function f a b = 0x51 ∷ 0x4F ∷ f ∷ (a ++ b)

counting : List ℕ → List ℕ
counting a = 0x51 ∷ 0x43 ∷ a

step : ℕ → ℕ → ℕ → List ℕ → List ℕ
step axis test name a = 0x51 ∷ 0x58 ∷ axis ∷ test ∷ (Bytes.bytes_of 2 name ++ a)

-- Catalogues

row : ℕ → ℕ → ℕ → ℕ → List ℕ
row size level kind prop = 0x44 ∷ 0x4E ∷ (Bytes.bytes_of 2 size ++ level ∷ kind ∷ Bytes.bytes_of 4 prop)

-- two one-row fragments
two_roots : List ℕ
two_roots = row 0 0 1 1 ++ row 0 0 1 2

-- the catalogue of chartask's example
unfoldable pub harbours : List ℕ
unfolding row
harbours =
    row 6 0 1 1 ++ row 4 1 1 2 ++ row 1 2 1 3 ++ row 0 3 3 5350 ++ row 1 2 1 4 ++ row 0 3 3 995 ++ row 0 1 1 2

-- Questions

pub data Ask : Type 0 where
  items_of : (query doc : List ℕ) → Ask
  plan_of : (query : List ℕ) → Ask
  run_of : (query doc : List ℕ) (lent : ℕ) → Ask
  work_of : (query doc : List ℕ) (lent : ℕ) → Ask

pub data ToldAnswer : Type 0 where
  items : List ℤ → ToldAnswer
  numbers : List ℕ → ToldAnswer
  refusal : ℕ → ToldAnswer

-- every third cell from column 2 on: the item column of a table of width 3
item_column : ℕ → List ℤ → List ℤ
item_column zero xs = []
item_column (suc n) xs = get_or xs 2 (pos 0) ∷ item_column n (drop 3 xs)

evaluated : Calls.Outcome ℤ → ToldAnswer
evaluated o = of o.answer
  where
    of : Calls.Answer → ToldAnswer
    of (Calls.gives ns) = items (take (get_or ns 0 0) o.left)
    of (Calls.refused n p) = refusal n

ran : Calls.Outcome ℤ → ToldAnswer
ran o = of o.answer
  where
    of : Calls.Answer → ToldAnswer
    of (Calls.gives ns) = items (item_column (get_or ns 1 0) (drop (get_or ns 0 0) o.left))
    of (Calls.refused n p) = refusal n

answered : Calls.Answer → ToldAnswer
answered (Calls.gives ns) = numbers ns
answered (Calls.refused n p) = refusal n

-- the bytes of the translated plan
unfoldable pub plan_bytes : List ℕ → List ℕ
plan_bytes query = take (of (Calls.translate_call query 1000).answer) (Calls.translate_call query 1000).left
  where
    of : Calls.Answer → ℕ
    of (Calls.gives ns) = get_or ns 1 0
    of (Calls.refused n p) = 0

unfoldable pub told : Ask → List ToldAnswer
unfolding evaluated ran answered plan_bytes item_column integer boolean empty root variable sequence letting for choice
    function counting step row two_roots harbours Lists.filter Lists.any Lists.all Lists.count Lists.firsts Lists.gather
    Lists.below Lists.sum Sorting.insert Sorting.sort Cell.cell_of Cell.in_range Cell.same Cell.before Cell.held
    Bytes.word Bytes.signed Bytes.int4 Bytes.int8 Bytes.fits Bytes.bytes_of Bytes.bits8 Attempt.attempt Attempt.reading
    Attempt.work Attempt.provided Attempt.unless Attempt.refusing Attempt.trying Attempt.within Attempt.each
    Catalogue.catalogue_of Catalogue.is_name Catalogue.own_sound Catalogue.row_sound Catalogue.rows_sound Catalogue.deeper
    Catalogue.sizes_exact Catalogue.catalogue_read World.integer_in World.integer_of World.ranged World.quotient
    World.function World.arith World.value_in World.value World.truth_from World.truth World.fragment World.is_descendant
    World.is_child World.axis_holds World.on_axis World.passes World.rank_in World.rank_of World.ranks_of World.reached
    World.step World.roots World.member World.root_of World.world_of Codes.function_of Codes.axis_of Codes.test_of
    Query.variable_of Query.fragment_of Query.boolean_of Query.sized Query.record_of Query.record_at Query.bound Query.leaf
    Query.one Query.two Query.three Query.operands Query.read Query.query_read Query.free Meaning.bind Meaning.apply
    Meaning.values Meaning.eval Counted.stand Counted.adding Counted.loop Counted.evaluate Plan.plain_in Plan.columns_at
    Plan.sized Plan.attach_at Plan.project_at Plan.number_at Plan.function_at Plan.step_at Plan.operator_of Plan.operator_at
    Plan.table_width Plan.up_to6 Plan.columns Plan.width_of Plan.placed_at Plan.last_of Plan.ended Plan.plan_from
    Plan.plan_read Operators.column Operators.same_row Operators.attach Operators.project Operators.minus Operators.select
    Operators.join Operators.rising Operators.numbered_after Operators.in_group Operators.number Operators.added
    Operators.groups Operators.group_of Operators.counts Operators.items_in_order Operators.truths Operators.once
    Operators.steps Operators.rooted Operators.make Run.run Run.cells Run.running Translation.next Translation.hold
    Translation.free_in Translation.others_in Translation.lifts Translation.lifted Translation.rule_l Translation.rule_r
    Translation.rule_e Translation.tail_s Translation.head_f Translation.tail_f Translation.head_i Translation.tail_o
    Translation.tail_c Translation.tail_d Translation.tail_x Translation.then Translation.tr Translation.tail_last
    Translation.plan Codes.function_number Codes.axis_number Codes.test_number Codes.test_name Written.operator_bytes
    Written.written Rows.padded Calls.refusal Calls.room Calls.catalogue_answer Calls.catalogue_call Calls.query_answer
    Calls.query_call Calls.plan_of Calls.translate_outcome Calls.translate_call Calls.last_table Rows.flat Calls.run_outcome
    Calls.run_call Calls.evaluate_outcome Calls.evaluate_call
told (items_of query doc) =
    evaluated (Calls.evaluate_call query doc 200) ∷ ran (Calls.run_call (plan_bytes query) doc 4000) ∷ []
told (plan_of query) = answered (Calls.translate_call query 1000).answer ∷ []
told (run_of query doc lent) = answered (Calls.run_call (plan_bytes query) doc lent).answer ∷ []
told (work_of query doc lent) = answered (Calls.evaluate_call query doc lent).answer ∷ []

-- both engines tell the same
both : ToldAnswer → List ToldAnswer
both t = t ∷ t ∷ []

-- The table

unfoldable pub nested : List ℕ
unfolding integer sequence for variable
nested =
    for 0 (sequence (integer (pos 1)) (integer (pos 2)))
    (sequence (variable 0)
    (for 1 (sequence (integer (pos 10)) (integer (pos 20))) (sequence (variable 0) (variable 1))))

unfoldable pub latitudes : List ℕ
unfolding root variable for counting step
latitudes = for 0 (step 1 3 2 (root 1)) (counting (step 1 3 3 (variable 0)))

by_zero : List ℕ
by_zero = function 4 (integer (pos 1)) (integer (pos 0))

mixed : List ℕ
mixed = sequence (integer (pos 2)) (boolean 1)

one_two : List ℕ
one_two = sequence (integer (pos 1)) (integer (pos 2))

unfoldable pub nested_items : List ℤ
nested_items = pos 1 ∷ pos 1 ∷ pos 10 ∷ pos 1 ∷ pos 20 ∷ pos 2 ∷ pos 2 ∷ pos 10 ∷ pos 2 ∷ pos 20 ∷ []

examples : List (Ask × List ToldAnswer)
examples =
    (items_of nested [], both (items nested_items))
    ∷ (items_of (function 4 (integer (negsuc 6)) (integer (pos 2))) [], both (items (negsuc 2 ∷ [])))
    ∷ (items_of (function 4 (integer (negsuc 2147483647)) (integer (negsuc 0))) [], both (refusal 7))
    ∷ (items_of (function 1 (sequence (integer (pos 1)) (integer (pos 2))) empty) [], both (refusal 7))
    ∷ (items_of (function 1 (boolean 1) empty) [], both (items []))
    ∷ (items_of (for 0 empty by_zero) [], both (items []))
    ∷ (items_of (choice (boolean 0) by_zero (integer (pos 2))) [], both (items (pos 2 ∷ [])))
    ∷ (items_of (letting 0 by_zero (integer (pos 2))) [], both (refusal 7))
    ∷ (items_of (choice empty (integer (pos 1)) (integer (pos 2))) [], both (items (pos 2 ∷ [])))
    ∷ (items_of (choice mixed (integer (pos 1)) (integer (pos 2))) [], both (refusal 7))
    ∷ (plan_of (integer (pos 10)), numbers (5 ∷ 41 ∷ []) ∷ [])
    ∷ (run_of (integer (pos 10)) [] 13, numbers (10 ∷ 1 ∷ 13 ∷ []) ∷ [])
    ∷ (run_of (integer (pos 10)) [] 12, refusal 6 ∷ [])
    ∷ (items_of (step 7 0 0 (root 1)) two_roots, both (items []))
    ∷ (items_of latitudes harbours, both (items (pos 1 ∷ pos 0 ∷ [])))
    ∷ (plan_of latitudes, numbers (28 ∷ 214 ∷ []) ∷ [])
    ∷ (run_of latitudes harbours 130, numbers (124 ∷ 2 ∷ 130 ∷ []) ∷ [])
    -- beside the marked ones: all of a's items stand before b's, however many there are
    ∷ (items_of (sequence one_two (integer (pos 3))) [], both (items (pos 1 ∷ pos 2 ∷ pos 3 ∷ [])))
    ∷ (work_of latitudes harbours 4, numbers (2 ∷ 4 ∷ []) ∷ [])
    ∷ (work_of latitudes harbours 3, refusal 6 ∷ [])
    ∷ []

marked : map (λ (e : Ask × List ToldAnswer). told e.0) examples ≡ map (λ (e : Ask × List ToldAnswer). e.1) examples
unfolding told examples nested latitudes by_zero mixed one_two nested_items both
marked = refl

-- RD keeps repeated rows of t: they are no set
repeated_rows_stay :
    Operators.minus ((pos 1 ∷ []) ∷ (pos 1 ∷ []) ∷ (pos 2 ∷ []) ∷ []) ((pos 2 ∷ []) ∷ [])
    ≡ (pos 1 ∷ []) ∷ (pos 1 ∷ []) ∷ []
unfolding Operators.minus Operators.same_row Lists.filter Lists.any Cell.same
repeated_rows_stay = refl
