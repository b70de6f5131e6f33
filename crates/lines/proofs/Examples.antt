-- The text on examples: the marked one over the bytes of its files, and a line of each kind.
--     marked       the catalogue and the query of document 01 print what it says
--     each_kind    items of each kind, and engines that agree
--     others       refusals, and engines that differ or had no room
use mathlib.Core.Path.{◌≡◌, refl}
use mathlib.Core.List.{List, [], ◌∷◌}
use Prim.Native.Nat.{ℕ}
use lib.IntN.{pos, negsuc}
use Rattle.codes.specs.Codes as Codes
use Rattle.laws.specs.Lists as Lists
use Rattle.laws.specs.Rows as Rows
use Rattle.laws.specs.Rows as Rows
use Rattle.laws.specs.Sorting as Sorting
use Rattle.cells.specs.Cell as Cell
use Rattle.cells.specs.Bytes as Bytes
use Rattle.laws.specs.Attempt as Attempt
use Rattle.meaning.specs.Catalogue as Catalogue
use Rattle.meaning.specs.World as World
use Rattle.meaning.specs.Query as Query
use Rattle.meaning.specs.Meaning as Meaning
use Rattle.meaning.specs.Counted as Counted
use Rattle.meaning.specs.Plan as Plan
use Rattle.meaning.specs.Operators as Operators
use Rattle.meaning.specs.Run as Run
use Rattle.meaning.specs.Translation as Translation
use Rattle.meaning.specs.Written as Written
use Rattle.meaning.specs.Calls as Calls
use Rattle.verdicts.specs.Compared.{Gave, Refused}
use Rattle.verdicts.specs.Compared as Compared
use Rattle.pen.specs.Decimal as Decimal
use Rattle.lines.specs.Text as Text
use Rattle.lines.specs.Printed as Printed

-- the catalogue: a row a line
abbrev harbours : List ℕ
harbours =
    0x44 ∷ 0x4E ∷ 0x00 ∷ 0x06 ∷ 0x00 ∷ 0x01 ∷ 0x00 ∷ 0x00 ∷ 0x00 ∷ 0x01
    ∷ 0x44 ∷ 0x4E ∷ 0x00 ∷ 0x04 ∷ 0x01 ∷ 0x01 ∷ 0x00 ∷ 0x00 ∷ 0x00 ∷ 0x02
    ∷ 0x44 ∷ 0x4E ∷ 0x00 ∷ 0x01 ∷ 0x02 ∷ 0x01 ∷ 0x00 ∷ 0x00 ∷ 0x00 ∷ 0x03
    ∷ 0x44 ∷ 0x4E ∷ 0x00 ∷ 0x00 ∷ 0x03 ∷ 0x03 ∷ 0x00 ∷ 0x00 ∷ 0x14 ∷ 0xE6
    ∷ 0x44 ∷ 0x4E ∷ 0x00 ∷ 0x01 ∷ 0x02 ∷ 0x01 ∷ 0x00 ∷ 0x00 ∷ 0x00 ∷ 0x04
    ∷ 0x44 ∷ 0x4E ∷ 0x00 ∷ 0x00 ∷ 0x03 ∷ 0x03 ∷ 0x00 ∷ 0x00 ∷ 0x03 ∷ 0xE3
    ∷ 0x44 ∷ 0x4E ∷ 0x00 ∷ 0x00 ∷ 0x01 ∷ 0x01 ∷ 0x00 ∷ 0x00 ∷ 0x00 ∷ 0x02 ∷ []

abbrev latitudes : List ℕ
latitudes =
    0x51 ∷ 0x46 ∷ 0x00 ∷ 0x51 ∷ 0x58 ∷ 0x01 ∷ 0x03 ∷ 0x00 ∷ 0x02 ∷ 0x51 ∷ 0x52 ∷ 0x01
    ∷ 0x51 ∷ 0x43 ∷ 0x51 ∷ 0x58 ∷ 0x01 ∷ 0x03 ∷ 0x00 ∷ 0x03 ∷ 0x51 ∷ 0x56 ∷ 0x00 ∷ []

-- `items 2`, `int 1`, `int 0`, `same yes`
marked :
    Printed.printed harbours latitudes
    ≡ 105 ∷ 116 ∷ 101 ∷ 109 ∷ 115 ∷ 32 ∷ 50 ∷ 10
    ∷ 105 ∷ 110 ∷ 116 ∷ 32 ∷ 49 ∷ 10
    ∷ 105 ∷ 110 ∷ 116 ∷ 32 ∷ 48 ∷ 10
    ∷ 115 ∷ 97 ∷ 109 ∷ 101 ∷ 32 ∷ 121 ∷ 101 ∷ 115 ∷ 10 ∷ []
unfolding Decimal.digits Decimal.decimal Decimal.signed
    Text.integer_line Text.truth_line Text.node_line Text.held_line Text.item_line
    Text.refused_line Text.items_line Text.first_lines Text.same_line Text.text
    Compared.refused_with Compared.agree Compared.verdict
    Printed.value_of Printed.told_by Printed.run_items Printed.printed Rows.row Rows.rows_at Lists.filter Lists.any
    Lists.all Lists.count Lists.firsts Lists.gather Lists.below Lists.sum Sorting.insert Sorting.sort Cell.cell_of
    Cell.in_range Cell.same Cell.before Cell.held Bytes.word Bytes.signed Bytes.int4 Bytes.int8 Bytes.fits Bytes.bytes_of
    Bytes.bits8 Attempt.attempt Attempt.reading Attempt.work Attempt.provided Attempt.unless Attempt.refusing
    Attempt.trying Attempt.within Attempt.each Catalogue.catalogue_of Catalogue.is_name Catalogue.own_sound
    Catalogue.row_sound Catalogue.rows_sound Catalogue.deeper Catalogue.sizes_exact Catalogue.catalogue_read World.integer_in
    World.integer_of World.ranged World.quotient World.function World.arith World.value_in World.value World.truth_from
    World.truth World.fragment World.is_descendant World.is_child World.axis_holds World.on_axis World.passes World.rank_in
    World.rank_of World.ranks_of World.reached World.step World.roots World.member World.root_of World.world_of
    Codes.function_of Codes.axis_of Codes.test_of Query.variable_of Query.fragment_of Query.boolean_of Query.sized
    Query.record_of Query.record_at Query.bound Query.leaf Query.one Query.two Query.three Query.operands Query.read
    Query.query_read Query.free Meaning.bind Meaning.apply Meaning.values Meaning.eval Counted.stand Counted.adding
    Counted.loop Counted.evaluate Plan.plain_in Plan.columns_at Plan.sized Plan.attach_at Plan.project_at Plan.number_at
    Plan.function_at Plan.step_at Plan.operator_of Plan.operator_at Plan.table_width Plan.up_to6 Plan.columns Plan.width_of
    Plan.placed_at Plan.last_of Plan.ended Plan.plan_from Plan.plan_read Operators.column Operators.same_row Operators.attach
    Operators.project Operators.minus Operators.select Operators.join Operators.rising Operators.numbered_after
    Operators.in_group Operators.number Operators.added Operators.groups Operators.group_of Operators.counts
    Operators.items_in_order Operators.truths Operators.once Operators.steps Operators.rooted Operators.make Run.run
    Run.cells Run.running Translation.next Translation.hold Translation.free_in Translation.others_in Translation.lifts
    Translation.lifted Translation.rule_l Translation.rule_r Translation.rule_e Translation.tail_s Translation.head_f
    Translation.tail_f Translation.head_i Translation.tail_o Translation.tail_c Translation.tail_d Translation.tail_x
    Translation.then Translation.tr Translation.tail_last Translation.plan Codes.function_number Codes.axis_number
    Codes.test_number Codes.test_name Written.operator_bytes Written.written Rows.padded Calls.refusal Calls.room
    Calls.catalogue_answer Calls.catalogue_call Calls.query_answer Calls.query_call Calls.plan_of Calls.translate_outcome
    Calls.translate_call Calls.last_table Rows.flat Calls.run_outcome Calls.run_call Calls.evaluate_outcome
    Calls.evaluate_call
marked = refl

-- `items 5`, `int -2147483648`, `int 2147483647`, `bool 0`, `bool 1`, `node 2047`, `same yes`
each_kind :
    let xs = negsuc 2147483647 ∷ pos 2147483647 ∷ pos 0x1_0000_0000 ∷ pos 0x1_0000_0001 ∷ pos (0x2_0000_07FF) ∷ [] in
    Text.text (Gave 1) (Gave 5) xs (Gave 5) xs
    ≡ 105 ∷ 116 ∷ 101 ∷ 109 ∷ 115 ∷ 32 ∷ 53 ∷ 10
    ∷ 105 ∷ 110 ∷ 116 ∷ 32 ∷ 45 ∷ 50 ∷ 49 ∷ 52 ∷ 55 ∷ 52 ∷ 56 ∷ 51 ∷ 54 ∷ 52 ∷ 56 ∷ 10
    ∷ 105 ∷ 110 ∷ 116 ∷ 32 ∷ 50 ∷ 49 ∷ 52 ∷ 55 ∷ 52 ∷ 56 ∷ 51 ∷ 54 ∷ 52 ∷ 55 ∷ 10
    ∷ 98 ∷ 111 ∷ 111 ∷ 108 ∷ 32 ∷ 48 ∷ 10
    ∷ 98 ∷ 111 ∷ 111 ∷ 108 ∷ 32 ∷ 49 ∷ 10
    ∷ 110 ∷ 111 ∷ 100 ∷ 101 ∷ 32 ∷ 50 ∷ 48 ∷ 52 ∷ 55 ∷ 10
    ∷ 115 ∷ 97 ∷ 109 ∷ 101 ∷ 32 ∷ 121 ∷ 101 ∷ 115 ∷ 10 ∷ []
unfolding Decimal.digits Decimal.decimal Decimal.signed
    Text.integer_line Text.truth_line Text.node_line Text.held_line Text.item_line
    Text.refused_line Text.items_line Text.first_lines Text.same_line Text.text
    Compared.refused_with Compared.agree Compared.verdict
    Lists.gather Cell.held Cell.same Operators.same_row
each_kind = refl

-- the translator's refusal alone; the runner's, where the evaluator refuses alike, gave items, or had no room
alone :
    Text.text (Refused 3 12) (Gave 0) [] (Gave 0) []
    ≡ 114 ∷ 101 ∷ 102 ∷ 117 ∷ 115 ∷ 101 ∷ 100 ∷ 32 ∷ 51 ∷ 32 ∷ 97 ∷ 116 ∷ 32 ∷ 49 ∷ 50 ∷ 10 ∷ []
unfolding Decimal.digits Decimal.decimal Decimal.signed
    Text.integer_line Text.truth_line Text.node_line Text.held_line Text.item_line
    Text.refused_line Text.items_line Text.first_lines Text.same_line Text.text
    Compared.refused_with Compared.agree Compared.verdict
alone = refl

alike :
    Text.text (Gave 5) (Refused 7 30) [] (Refused 7 6) []
    ≡ 114 ∷ 101 ∷ 102 ∷ 117 ∷ 115 ∷ 101 ∷ 100 ∷ 32 ∷ 55 ∷ 32 ∷ 97 ∷ 116 ∷ 32 ∷ 51 ∷ 48 ∷ 10
    ∷ 115 ∷ 97 ∷ 109 ∷ 101 ∷ 32 ∷ 121 ∷ 101 ∷ 115 ∷ 10 ∷ []
unfolding Decimal.digits Decimal.decimal Decimal.signed
    Text.integer_line Text.truth_line Text.node_line Text.held_line Text.item_line
    Text.refused_line Text.items_line Text.first_lines Text.same_line Text.text
    Compared.refused_with Compared.agree Compared.verdict
alike = refl

differs :
    Text.text (Gave 5) (Refused 7 30) [] (Gave 0) []
    ≡ 114 ∷ 101 ∷ 102 ∷ 117 ∷ 115 ∷ 101 ∷ 100 ∷ 32 ∷ 55 ∷ 32 ∷ 97 ∷ 116 ∷ 32 ∷ 51 ∷ 48 ∷ 10
    ∷ 115 ∷ 97 ∷ 109 ∷ 101 ∷ 32 ∷ 110 ∷ 111 ∷ 10 ∷ []
unfolding Decimal.digits Decimal.decimal Decimal.signed
    Text.integer_line Text.truth_line Text.node_line Text.held_line Text.item_line
    Text.refused_line Text.items_line Text.first_lines Text.same_line Text.text
    Compared.refused_with Compared.agree Compared.verdict
differs = refl

room :
    Text.text (Gave 5) (Refused 6 30) [] (Refused 6 0) []
    ≡ 114 ∷ 101 ∷ 102 ∷ 117 ∷ 115 ∷ 101 ∷ 100 ∷ 32 ∷ 54 ∷ 32 ∷ 97 ∷ 116 ∷ 32 ∷ 51 ∷ 48 ∷ 10
    ∷ 115 ∷ 97 ∷ 109 ∷ 101 ∷ 32 ∷ 114 ∷ 111 ∷ 111 ∷ 109 ∷ 10 ∷ []
unfolding Decimal.digits Decimal.decimal Decimal.signed
    Text.integer_line Text.truth_line Text.node_line Text.held_line Text.item_line
    Text.refused_line Text.items_line Text.first_lines Text.same_line Text.text
    Compared.refused_with Compared.agree Compared.verdict
room = refl
