-- The engines that document 01 shuts out, by one query: the integer 10. An invented count is shut out by any input.
--     ten, ten_ops        the query's bytes, and its plan's operators
--     bytes_of ps         a plan's bytes
--     computed           what the calls answer and leave on them, worked out
--     in_bytes           they are bytes
--     shut_out           no engine of the kinds that document 01 names keeps the contract
use Prim.Native.Nat.{ℕ, zero, suc}
use mathlib.Core.Path.{◌≡◌, refl, sym, ap, ◌∙◌}
use mathlib.Core.List.{List, [], ◌∷◌}
use mathlib.Core.Bool.{true}
use borrow.Author.Tests.{ltb-true}
use lib.Dec.{ltb}
use native.Mathlib.Omega.{arith}
use lib.IntN.{ℤ, pos}
use lib.ListN.{length, take, replicate}
use Rattle.codes.specs.Codes as Codes
use Rattle.laws.specs.Lists as Lists
use Rattle.laws.proofs.Booleans.{both_true}
use Rattle.laws.specs.Rows as Rows
use Rattle.laws.specs.Sorting as Sorting
use Rattle.cells.specs.Cell as Cell
use Rattle.cells.specs.Bytes as Bytes
use Rattle.cells.specs.Bytes.{Bytes}
use Rattle.laws.specs.Attempt as Attempt
use Rattle.laws.specs.Attempt.{reads}
use Rattle.meaning.specs.Catalogue as Catalogue
use Rattle.meaning.specs.World as World
use Rattle.meaning.specs.Query as Query
use Rattle.meaning.specs.Counted as Counted
use Rattle.meaning.specs.Plan as Plan
use Rattle.meaning.specs.Plan.{Placed, RT, RA, RP, RD, RN}
use Rattle.meaning.specs.Operators as Operators
use Rattle.meaning.specs.Run as Run
use Rattle.meaning.specs.Written as Written
use Rattle.meaning.specs.Calls as Calls
use Rattle.meaning.specs.Calls.{gives, Outcome, run_call, evaluate_call}
use Rattle.agreement.specs.Passing.{Passed, PlanPassed}
use Rattle.agreement.proofs.EngineCalls.{gives_refused}
use Rattle.agreement.proofs.SixBelow.{filled_fills, count_stands}
use Rattle.promises.specs.Promises.{Cells, Engine, Keeps, first_alone_of, ShutOut}

ten : List ℕ
ten = 0x51 ∷ 0x4C ∷ 0 ∷ 0 ∷ 0 ∷ 10 ∷ []

abbrev at : ℕ → Plan.Op → ℕ → Placed
at n o w = record { at = n; op = o; width = w }

-- the operators of the plan, with their offsets and widths
ten_ops : List Placed
ten_ops =
    at 0 RT 1
    ∷ at 2 (RA 0 (pos 1)) 2
    ∷ at 14 (RA 1 (pos 10)) 3
    ∷ at 26 (RN 2 0 (1 ∷ [])) 4
    ∷ at 33 (RP 3 (0 ∷ 3 ∷ 2 ∷ [])) 3
    ∷ []

bytes_of : List Placed → List ℕ
bytes_of ps = Lists.gather (λ (p : Placed). Written.operator_bytes p.op) ps

record Computed : Type 0 where
  in_ten : Lists.all (λ b. ltb b 256) ten ≡ true
  in_plan : Lists.all (λ b. ltb b 256) (bytes_of ten_ops) ≡ true
  ten_reads : Query.query_read ten ≡ reads (record { tree = Query.QL 0 (pos 10); next = 6; records = 1 })
  ten_plan : Plan.plan_read (bytes_of ten_ops) ≡ reads ten_ops
  nothing : Catalogue.catalogue_read [] ≡ reads (Catalogue.catalogue_of [] 0)
  evaluated : evaluate_call ten [] 1 ≡ record { answer = gives (1 ∷ 1 ∷ []); left = pos 10 ∷ [] }
  ran : (run_call (bytes_of ten_ops) [] 13).answer ≡ gives (10 ∷ 1 ∷ 13 ∷ [])
  left : take 1 (run_call (bytes_of ten_ops) [] 13).left ≡ pos 1 ∷ []
  first : (first_alone_of (bytes_of ten_ops) [] 13).answer ≡ gives (0 ∷ 1 ∷ 1 ∷ [])

computed : Computed
unfolding ten ten_ops bytes_of first_alone_of Lists.filter Lists.any Lists.all Lists.count Lists.gather
    Lists.below Lists.sum Sorting.insert Sorting.sort Cell.cell_of Cell.in_range Cell.same Cell.before Cell.held
    Bytes.word Bytes.signed Bytes.int4 Bytes.int8 Bytes.fits Bytes.bytes_of Bytes.bits8 Attempt.attempt Attempt.reading
    Attempt.work Attempt.provided Attempt.unless Attempt.refusing Attempt.trying Attempt.within Attempt.each
    Catalogue.catalogue_of Catalogue.is_name Catalogue.own_sound Catalogue.row_sound Catalogue.rows_sound Catalogue.deeper
    Catalogue.sizes_exact Catalogue.catalogue_read World.world_of Codes.function_of Codes.axis_of Codes.test_of
    Query.variable_of Query.fragment_of Query.boolean_of Query.sized Query.record_of Query.record_at Query.bound Query.leaf
    Query.one Query.two Query.three Query.operands Query.read Query.query_read
    Counted.stand Counted.adding Counted.loop Counted.evaluate Plan.plain_in Plan.columns_at
    Plan.sized Plan.attach_at Plan.project_at Plan.number_at Plan.function_at Plan.step_at Plan.operator_of Plan.operator_at
    Plan.table_width Plan.up_to6 Plan.columns Plan.width_of Plan.placed_at Plan.last_of Plan.ended Plan.plan_from
    Plan.plan_read Operators.column Operators.same_row Operators.attach Operators.project Operators.minus Operators.select
    Operators.join Operators.rising Operators.numbered_after Operators.in_group Operators.number
    Operators.make Run.run Run.cells Run.running
    Written.operator_bytes
    Rows.padded Calls.refusal Calls.room Calls.last_table Rows.flat Calls.run_outcome
    Calls.run_call Calls.evaluate_outcome Calls.evaluate_call
computed =
    record {
      in_ten = refl;
      in_plan = refl;
      ten_reads = refl;
      ten_plan = refl;
      nothing = refl;
      evaluated = refl;
      ran = refl;
      left = refl;
      first = refl;
    }

ten_query : Passed ten []
ten_query = record { read = _; query_reads = computed.ten_reads; catalogue = _; doc_reads = computed.nothing }

ten_run : PlanPassed (bytes_of ten_ops) []
ten_run = record { placed = _; plan_reads = computed.ten_plan; catalogue = _; doc_reads = computed.nothing }

-- the lent cells: one for the evaluator, thirteen for the runner
one : List ℤ
one = pos 0 ∷ []

thirteen : List ℤ
thirteen = replicate 13 (pos 0)

-- bytes and cells that a contract can speak of
in_bytes : (bs : List ℕ) → Lists.all (λ b. ltb b 256) bs ≡ true → Bytes bs
unfolding Lists.all
in_bytes [] e i = omega arith
in_bytes (b ∷ bs) e zero = ltb-true b 256 (both_true (ltb b 256) _ e).0
in_bytes (b ∷ bs) e (suc i) = in_bytes bs (both_true (ltb b 256) _ e).1 i

in_plan : Bytes (bytes_of ten_ops)
in_plan = in_bytes (bytes_of ten_ops) computed.in_plan

in_none : Bytes []
in_none i = omega arith

in_zeros : (n : ℕ) → Cells (replicate n (pos 0))
in_zeros zero i = record { sfits = omega arith }
in_zeros (suc n) zero = record { sfits = omega arith }
in_zeros (suc n) (suc i) = in_zeros n i

module _ (f : Engine) where
  evaluator_says : Keeps evaluate_call f
      → ((f ten [] one).answer ≡ gives (1 ∷ 1 ∷ [])) × ((f ten [] one).left ≡ pos 10 ∷ [])
  unfolding one
  evaluator_says k =
      let h = k ten [] one (in_bytes ten computed.in_ten) in_none (in_zeros 1) in (
        h.answers ∙ ap (λ (o : Outcome ℤ). o.answer) computed.evaluated,
        h.leaves ∙ ap (λ (o : Outcome ℤ). o.left) computed.evaluated,
      )

  runner_says : Keeps run_call f → (f (bytes_of ten_ops) [] thirteen).answer ≡ gives (10 ∷ 1 ∷ 13 ∷ [])
  unfolding thirteen
  runner_says k = (k (bytes_of ten_ops) [] thirteen in_plan in_none (in_zeros 13)).answers ∙ computed.ran

  runner_leaves : Keeps run_call f → take 1 (f (bytes_of ten_ops) [] thirteen).left ≡ pos 1 ∷ []
  unfolding thirteen
  runner_leaves k = ap (take 1) (k (bytes_of ten_ops) [] thirteen in_plan in_none (in_zeros 13)).leaves ∙ computed.left

-- answers and cells that differ
members_three : {a b c x y z : ℕ} → gives (a ∷ b ∷ c ∷ []) ≡ gives (x ∷ y ∷ z ∷ []) → (b ≡ y) × (c ≡ z)
members_three e = ((cc), (cc))

members_two : {a b x y : ℕ} → gives (a ∷ b ∷ []) ≡ gives (x ∷ y ∷ []) → (a ≡ x) × (b ≡ y)
members_two e = ((cc), (cc))

cell_same : {x y : ℕ} {xs ys : List ℤ} → pos x ∷ xs ≡ pos y ∷ ys → x ≡ y
cell_same e = cc

pub shut_out : (f : Engine) → ShutOut f
unfolding one thirteen
shut_out f =
    record {
      always_7 = λ h k.
          let (p, e) = h ten [] ten_query one (in_bytes ten computed.in_ten) in_none (in_zeros 1) in
          gives_refused _ 7 p (sym (evaluator_says f k).0 ∙ e);
      runs_7 = λ h k.
          let (p, e) = h (bytes_of ten_ops) [] ten_run thirteen in_plan in_none (in_zeros 13) in
          gives_refused _ 7 p (sym (runner_says f k) ∙ e);
      always_empty = λ h k.
          let (n, e) = h ten [] ten_query one (in_bytes ten computed.in_ten) in_none (in_zeros 1) in
          absurd (omega (arith, (members_two (sym (evaluator_says f k).0 ∙ e)).0));
      runs_empty = λ h k.
          let (s, n, e) = h (bytes_of ten_ops) [] ten_run thirteen in_plan in_none (in_zeros 13) in
          absurd (omega (arith, (members_three (sym (runner_says f k) ∙ e)).0));
      writes_nothing = λ h k.
          absurd (omega (
            arith,
            cell_same (sym (evaluator_says f k).1 ∙ h ten [] ten_query one
                (in_bytes ten computed.in_ten) in_none (in_zeros 1)),
          ));
      runs_write_nothing = λ h k.
          absurd (omega (
            arith,
            cell_same (sym (runner_leaves f k) ∙ ap (take 1)
                (h (bytes_of ten_ops) [] ten_run thirteen in_plan in_none (in_zeros 13))),
          ));
      first_alone = λ h k.
          absurd (omega (
            arith,
            (members_three
                (sym (runner_says f k)
                ∙ ap (λ (o : Outcome ℤ). o.answer) (h (bytes_of ten_ops) [] thirteen in_plan in_none (in_zeros 13))
                ∙ computed.first)).1,
          ));
      invented_count = λ query doc i cells q d c items count e other k.
          other (count_stands query doc i (length cells) items count (sym (k query doc cells q d c).answers ∙ e));
      invented_cells = λ bytes doc i cells q d c start rows filled e other k.
          other (filled_fills bytes doc i (length cells) start rows filled
          (sym (k bytes doc cells q d c).answers ∙ e));
    }
