-- The cycle of the translator: the depth left falls from a record to its operands.
use Prim.Native.Nat.{◌-◌}
use mathlib.Core.Path.{refl}
use native.Mathlib.Omega.{arith}
use lib.Dec.{lit≤}
use Rattle.meaning.specs.Query.{QO, QC, QL, QE, QR, QV}
use Rattle.meaning.specs.Query.{QF, QT, QS, QX, QD}
use Rattle.meaning.specs.Translation.{tr, tail_o, tail_c, tail_s, tail_x, tail_d}
use Rattle.query_walks.specs.Parse.{parse, trees}
use Rattle.translating.proofs.Rooms.{room_less, first_asked, second_asked, two_room, branch_asked, condition_asked}
use Rattle.translating.proofs.Rooms.{condition_room, then_asked, else_asked, choice_room, only_asked, one_room}
use Rattle.translating.proofs.Rooms.{first_room, head_room, body_asked, body_room}
use Rattle.translating.proofs.Composing.{two_made, branch_made, choice_made, one_made, for_made, let_made}
use Rattle.query_records.specs.Fields.{Ranged}
use Rattle.translating.proofs.Splitting.{leaf_room, leaf_makes, one_asked, one_makes, two_asked, two_makes}
use Rattle.translating.proofs.Splitting.{three_asked, three_makes}
use Rattle.translating.proofs.Dispatching.{deep, unsound, kind_parses, kind_ranged, kind_small, literal_made}
use Rattle.translating.proofs.Dispatching.{empty_made, root_made, variable_made}
use Rattle.query_records.specs.Decoded as Code
use Rattle.translating.proofs.+apply_branch_choose_count_expression_for_each_let_in_sequence_step_values.Goals as goal

-- `apply`

pub apply-expression-a-requires : goal.apply-expression-a-requires
apply-expression-a-requires t c =
    (omega arith, first_asked (QO 0 c.args.f) (λ a b. refl) c.requires)

pub apply-expression-b-requires : goal.apply-expression-b-requires
apply-expression-b-requires t c =
    let a = c.args in
    let rd = parse a.depth a.query.now in (
      omega arith,
      second_asked (QO 0 a.f) (λ a b. refl) rd a.at a.pen c.requires
          c.expression-a.ensures,
    )

pub apply-function_tail-requires : goal.apply-function_tail-requires
apply-function_tail-requires t c =
    let a = c.args in
    let rd = parse a.depth a.query.now in
    room_less 6 (two_room (QO 0 a.f) (λ a b. refl) rd a.at a.pen c.requires
    c.expression-a.ensures c.expression-b.ensures)
    (lit≤ tt)

pub apply-returns : goal.apply-returns
unfolding tr
apply-returns t c =
    let a = c.args in
    let rd = parse a.depth a.query.now in
    record {
      made = λ o e h.
          two_made rd o c.expression-a.ensures e h (λ n x y. tail_o n a.f x y) c.expression-b.ensures
          c.function_tail.ensures;
    }

-- `branch`

pub branch-into_branch-carried-requires : goal.branch-into_branch-carried-requires
branch-into_branch-carried-requires t c =
    room_less 16 c.requires.room (omega arith)

pub branch-expression-requires : goal.branch-expression-requires
branch-expression-requires t c =
    (omega arith, branch_asked c.requires c.into_branch-carried.ensures)

pub branch-returns : goal.branch-returns
branch-returns t c =
    record {
      made = λ o e h. branch_made c.into_branch-carried.ensures c.expression.ensures o e h;
    }

-- `choose`

pub choose-expression-c-requires : goal.choose-expression-c-requires
choose-expression-c-requires t c =
    let a = c.args in
    let rd = parse a.depth a.query.now in
    (omega arith, condition_asked rd a.at a.pen c.requires)

pub choose-if_head-q-requires : goal.choose-if_head-q-requires
choose-if_head-q-requires t c =
    let a = c.args in
    let rd = parse a.depth a.query.now in
    room_less 4 (condition_room rd a.at a.pen c.requires c.expression-c.ensures) (omega arith)

pub choose-overflow_add-m : goal.choose-overflow_add-m
choose-overflow_add-m t c =
    let a = c.args in
    let rd = parse a.depth a.query.now in
    omega (arith, condition_room rd a.at a.pen c.requires c.expression-c.ensures)

pub choose-branch-a-requires : goal.choose-branch-a-requires
choose-branch-a-requires t c =
    let a = c.args in
    let rd = parse a.depth a.query.now in (
      omega arith,
      then_asked rd a.at a.pen c.requires
          c.expression-c.ensures c.expression-c.result.pen.operators a.l
          c.expression-c.result.table c.if_head-q.ensures,
    )

pub choose-overflow_add-m-2 : goal.choose-overflow_add-m-2
choose-overflow_add-m-2 t c =
    let a = c.args in
    let rd = parse a.depth a.query.now in
    omega (arith, condition_room rd a.at a.pen c.requires c.expression-c.ensures)

pub choose-branch-b-requires : goal.choose-branch-b-requires
choose-branch-b-requires t c =
    let a = c.args in
    let rd = parse a.depth a.query.now in (
      omega arith,
      else_asked rd a.at a.pen c.requires
          c.expression-c.ensures c.expression-c.result.pen.operators a.l
          c.expression-c.result.table c.if_head-q.ensures
          c.branch-a.ensures,
    )

pub choose-if_tail-requires : goal.choose-if_tail-requires
choose-if_tail-requires t c =
    let a = c.args in
    let rd = parse a.depth a.query.now in
    choice_room rd a.at a.pen c.requires
    c.expression-c.ensures c.expression-c.result.pen.operators a.l
    c.expression-c.result.table c.if_head-q.ensures
    c.branch-a.ensures c.branch-b.ensures

pub choose-returns : goal.choose-returns
choose-returns t c =
    let a = c.args in
    let rd = parse a.depth a.query.now in
    record {
      made = λ o e h.
          choice_made rd o c.expression-c.ensures c.if_head-q.ensures c.branch-a.ensures
          c.branch-b.ensures
          c.if_tail.ensures e h;
    }

-- `count`

pub count-expression-a-requires : goal.count-expression-a-requires
count-expression-a-requires t c =
    (omega arith, only_asked (QC 0) (λ a. refl) c.requires)

pub count-count_tail-requires : goal.count-count_tail-requires
count-count_tail-requires t c =
    room_less 7 (one_room (QC 0) (λ a. refl) c.requires c.expression-a.ensures) (lit≤ tt)

pub count-returns : goal.count-returns
unfolding tr
count-returns t c =
    record {
      made = λ o e h.
          one_made (λ n x. tail_c n c.args.l x) o.q c.args.l e
          (c.expression-a.ensures.made o e h) c.count_tail.ensures;
    }

-- `expression`

pub expression-returns-in_default : goal.expression-returns-in_default
expression-returns-in_default t c =
    let r = c.read in
    let a = c.args in
    record {
      made = λ o e h.
          absurd
          (unsound a.query.now a.at a.depth a.pen c.requires r.result r.ensures
          c.in_default.is);
    }

pub expression-overflow_sub-left : goal.expression-overflow_sub-left
expression-overflow_sub-left t c =
    omega (arith, deep c.args.query.now c.args.at c.args.depth c.args.pen c.requires)

pub expression-cell_of-requires : goal.expression-cell_of-requires
expression-cell_of-requires t c =
    kind_small c.args.query.now c.args.at c.args.depth c.args.pen c.requires
    c.read.result c.read.ensures c.in-Some.found c.in-Some.is c.in-Literal.is

pub expression-literal-requires : goal.expression-literal-requires
unfolding trees Code.record_of
expression-literal-requires t c =
    room_less 2 (leaf_room (QL _ _) _ (kind_parses c.args.query.now c.args.at c.args.depth c.args.pen c.requires
    c.read.result c.read.ensures c.in-Some.found c.in-Some.is c.in-Literal.is) refl c.requires) (lit≤ tt)

pub expression-empty-requires : goal.expression-empty-requires
unfolding trees Code.record_of
expression-empty-requires t c =
    room_less 3 (leaf_room (QE _) _ (kind_parses c.args.query.now c.args.at c.args.depth c.args.pen c.requires
    c.read.result c.read.ensures c.in-Some.found c.in-Some.is c.in-Empty.is) refl c.requires) (lit≤ tt)

pub expression-overflow_cast-k : goal.expression-overflow_cast-k
unfolding Ranged Code.record_of
expression-overflow_cast-k t c =
    omega (
      arith,
      kind_ranged c.args.query.now c.args.at c.args.depth c.args.pen c.requires
          c.read.result c.read.ensures c.in-Some.found c.in-Some.is c.in-Root.is,
    )

pub expression-root-requires : goal.expression-root-requires
unfolding trees Code.record_of
expression-root-requires t c =
    room_less 2 (leaf_room (QR _ _) _ (kind_parses c.args.query.now c.args.at c.args.depth c.args.pen c.requires
    c.read.result c.read.ensures c.in-Some.found c.in-Some.is c.in-Root.is) refl c.requires) (lit≤ tt)

pub expression-sequence-requires : goal.expression-sequence-requires
unfolding trees Code.record_of tr
expression-sequence-requires t c =
    let a = c.args in
    let rd = parse (a.depth - 1) a.query.now in (
      omega (arith, deep c.args.query.now c.args.at c.args.depth c.args.pen c.requires),
      two_asked (record { count = λ a b. refl; plan = λ a b n l e. refl }) rd
          c.in-Some.found.next
          (kind_parses c.args.query.now c.args.at c.args.depth c.args.pen c.requires
          c.read.result c.read.ensures c.in-Some.found c.in-Some.is c.in-Sequence.is) c.requires,
    )

pub expression-let_in-requires : goal.expression-let_in-requires
unfolding trees Code.record_of tr
expression-let_in-requires t c =
    let a = c.args in
    let rd = parse (a.depth - 1) a.query.now in (
      omega (arith, deep c.args.query.now c.args.at c.args.depth c.args.pen c.requires),
      two_asked (record { count = λ a b. refl; plan = λ a b n l e. refl }) rd
          c.in-Some.found.next
          (kind_parses c.args.query.now c.args.at c.args.depth c.args.pen c.requires
          c.read.result c.read.ensures c.in-Some.found c.in-Some.is c.in-Let.is) c.requires,
    )

pub expression-for_each-requires : goal.expression-for_each-requires
unfolding trees Code.record_of tr
expression-for_each-requires t c =
    let a = c.args in
    let rd = parse (a.depth - 1) a.query.now in (
      omega (arith, deep c.args.query.now c.args.at c.args.depth c.args.pen c.requires),
      two_asked (record { count = λ a b. refl; plan = λ a b n l e. refl }) rd
          c.in-Some.found.next
          (kind_parses c.args.query.now c.args.at c.args.depth c.args.pen c.requires
          c.read.result c.read.ensures c.in-Some.found c.in-Some.is c.in-For.is) c.requires,
    )

pub expression-choose-requires : goal.expression-choose-requires
unfolding trees Code.record_of tr
expression-choose-requires t c =
    let a = c.args in
    let rd = parse (a.depth - 1) a.query.now in (
      omega (arith, deep c.args.query.now c.args.at c.args.depth c.args.pen c.requires),
      three_asked (record { count = λ c a b. refl; plan = λ c a b n l e. refl }) rd
          c.in-Some.found.next
          (kind_parses c.args.query.now c.args.at c.args.depth c.args.pen c.requires
          c.read.result c.read.ensures c.in-Some.found c.in-Some.is c.in-If.is) c.requires,
    )

pub expression-apply-requires : goal.expression-apply-requires
unfolding trees Code.record_of tr
expression-apply-requires t c =
    let a = c.args in
    let rd = parse (a.depth - 1) a.query.now in (
      omega (arith, deep c.args.query.now c.args.at c.args.depth c.args.pen c.requires),
      two_asked (record { count = λ a b. refl; plan = λ a b n l e. refl }) rd
          c.in-Some.found.next
          (kind_parses c.args.query.now c.args.at c.args.depth c.args.pen c.requires
          c.read.result c.read.ensures c.in-Some.found c.in-Some.is c.in-Apply.is) c.requires,
    )

pub expression-count-requires : goal.expression-count-requires
unfolding trees Code.record_of tr
expression-count-requires t c =
    let a = c.args in
    let rd = parse (a.depth - 1) a.query.now in (
      omega (arith, deep c.args.query.now c.args.at c.args.depth c.args.pen c.requires),
      one_asked (record { count = λ a. refl; plan = λ a n l e. refl }) (rd c.in-Some.found.next)
          (kind_parses c.args.query.now c.args.at c.args.depth c.args.pen c.requires
          c.read.result c.read.ensures c.in-Some.found c.in-Some.is c.in-Count.is) c.requires,
    )

pub expression-values-requires : goal.expression-values-requires
unfolding trees Code.record_of tr
expression-values-requires t c =
    let a = c.args in
    let rd = parse (a.depth - 1) a.query.now in (
      omega (arith, deep c.args.query.now c.args.at c.args.depth c.args.pen c.requires),
      one_asked (record { count = λ a. refl; plan = λ a n l e. refl }) (rd c.in-Some.found.next)
          (kind_parses c.args.query.now c.args.at c.args.depth c.args.pen c.requires
          c.read.result c.read.ensures c.in-Some.found c.in-Some.is c.in-Data.is) c.requires,
    )

pub expression-step-requires : goal.expression-step-requires
unfolding trees Code.record_of tr
expression-step-requires t c =
    let a = c.args in
    let rd = parse (a.depth - 1) a.query.now in (
      omega (arith, deep c.args.query.now c.args.at c.args.depth c.args.pen c.requires),
      one_asked (record { count = λ a. refl; plan = λ a n l e. refl }) (rd c.in-Some.found.next)
          (kind_parses c.args.query.now c.args.at c.args.depth c.args.pen c.requires
          c.read.result c.read.ensures c.in-Some.found c.in-Some.is c.in-Step.is) c.requires,
    )

pub expression-returns-in-Literal : goal.expression-returns-in-Literal
unfolding trees Code.record_of
expression-returns-in-Literal t c =
    let a = c.args in
    let z = c.cell_of in
    leaf_makes (QL _ _) _ (kind_parses c.args.query.now c.args.at c.args.depth c.args.pen c.requires
    c.read.result c.read.ensures c.in-Some.found c.in-Some.is c.in-Literal.is)
    (literal_made a.l a.tables _ z.result _ (record { sfits = z.type_inv }) z.ensures c.literal.ensures)

pub expression-returns-in-Empty : goal.expression-returns-in-Empty
unfolding trees Code.record_of
expression-returns-in-Empty t c =
    let a = c.args in
    leaf_makes (QE _) _ (kind_parses c.args.query.now c.args.at c.args.depth c.args.pen c.requires
    c.read.result c.read.ensures c.in-Some.found c.in-Some.is c.in-Empty.is)
    (empty_made a.l a.tables _ c.empty.ensures)

pub expression-returns-in-Root : goal.expression-returns-in-Root
unfolding trees Code.record_of
expression-returns-in-Root t c =
    let a = c.args in
    leaf_makes (QR _ _) _ (kind_parses c.args.query.now c.args.at c.args.depth c.args.pen c.requires
    c.read.result c.read.ensures c.in-Some.found c.in-Some.is c.in-Root.is)
    (root_made a.l a.tables _ _ c.root.ensures)

pub expression-returns-in-Variable : goal.expression-returns-in-Variable
unfolding trees Code.record_of Ranged
expression-returns-in-Variable t c =
    let a = c.args in
    let e = c.in-Variable.is in
    leaf_makes (QV _ _) _ (kind_parses c.args.query.now c.args.at c.args.depth c.args.pen c.requires
    c.read.result c.read.ensures c.in-Some.found c.in-Some.is e)
    (variable_made a.at _ _ a.l a.tables _ a.pen c.variable-in-Variable.result
    (kind_ranged c.args.query.now c.args.at c.args.depth c.args.pen c.requires
    c.read.result c.read.ensures c.in-Some.found c.in-Some.is e)
    c.variable-in-Variable.ensures)

pub expression-returns-in-Sequence : goal.expression-returns-in-Sequence
unfolding trees Code.record_of tr
expression-returns-in-Sequence t c =
    let a = c.args in
    let rd = parse (a.depth - 1) a.query.now in
    two_makes (record { count = λ a b. refl; plan = λ a b n l e. refl }) rd c.in-Some.found.next
    (kind_parses c.args.query.now c.args.at c.args.depth c.args.pen c.requires
    c.read.result c.read.ensures c.in-Some.found c.in-Some.is c.in-Sequence.is) c.sequence.ensures

pub expression-returns-in-Let : goal.expression-returns-in-Let
unfolding trees Code.record_of tr
expression-returns-in-Let t c =
    let a = c.args in
    let rd = parse (a.depth - 1) a.query.now in
    two_makes (record { count = λ a b. refl; plan = λ a b n l e. refl }) rd c.in-Some.found.next
    (kind_parses c.args.query.now c.args.at c.args.depth c.args.pen c.requires
    c.read.result c.read.ensures c.in-Some.found c.in-Some.is c.in-Let.is) c.let_in.ensures

pub expression-returns-in-For : goal.expression-returns-in-For
unfolding trees Code.record_of tr
expression-returns-in-For t c =
    let a = c.args in
    let rd = parse (a.depth - 1) a.query.now in
    two_makes (record { count = λ a b. refl; plan = λ a b n l e. refl }) rd c.in-Some.found.next
    (kind_parses c.args.query.now c.args.at c.args.depth c.args.pen c.requires
    c.read.result c.read.ensures c.in-Some.found c.in-Some.is c.in-For.is) c.for_each.ensures

pub expression-returns-in-If : goal.expression-returns-in-If
unfolding trees Code.record_of tr
expression-returns-in-If t c =
    let a = c.args in
    let rd = parse (a.depth - 1) a.query.now in
    three_makes (record { count = λ c a b. refl; plan = λ c a b n l e. refl }) rd
    c.in-Some.found.next
    (kind_parses c.args.query.now c.args.at c.args.depth c.args.pen c.requires
    c.read.result c.read.ensures c.in-Some.found c.in-Some.is c.in-If.is) c.choose.ensures

pub expression-returns-in-Apply : goal.expression-returns-in-Apply
unfolding trees Code.record_of tr
expression-returns-in-Apply t c =
    let a = c.args in
    let rd = parse (a.depth - 1) a.query.now in
    two_makes (record { count = λ a b. refl; plan = λ a b n l e. refl }) rd c.in-Some.found.next
    (kind_parses c.args.query.now c.args.at c.args.depth c.args.pen c.requires
    c.read.result c.read.ensures c.in-Some.found c.in-Some.is c.in-Apply.is) c.apply.ensures

pub expression-returns-in-Count : goal.expression-returns-in-Count
unfolding trees Code.record_of tr
expression-returns-in-Count t c =
    let a = c.args in
    let rd = parse (a.depth - 1) a.query.now in
    one_makes (record { count = λ a. refl; plan = λ a n l e. refl }) (rd c.in-Some.found.next)
    (kind_parses c.args.query.now c.args.at c.args.depth c.args.pen c.requires
    c.read.result c.read.ensures c.in-Some.found c.in-Some.is c.in-Count.is) c.count.ensures

pub expression-returns-in-Data : goal.expression-returns-in-Data
unfolding trees Code.record_of tr
expression-returns-in-Data t c =
    let a = c.args in
    let rd = parse (a.depth - 1) a.query.now in
    one_makes (record { count = λ a. refl; plan = λ a n l e. refl }) (rd c.in-Some.found.next)
    (kind_parses c.args.query.now c.args.at c.args.depth c.args.pen c.requires
    c.read.result c.read.ensures c.in-Some.found c.in-Some.is c.in-Data.is) c.values.ensures

pub expression-returns-in-Step : goal.expression-returns-in-Step
unfolding trees Code.record_of tr
expression-returns-in-Step t c =
    let a = c.args in
    let rd = parse (a.depth - 1) a.query.now in
    one_makes (record { count = λ a. refl; plan = λ a n l e. refl }) (rd c.in-Some.found.next)
    (kind_parses c.args.query.now c.args.at c.args.depth c.args.pen c.requires
    c.read.result c.read.ensures c.in-Some.found c.in-Some.is c.in-Step.is) c.step.ensures

-- `for_each`

pub for_each-expression-a-requires : goal.for_each-expression-a-requires
for_each-expression-a-requires t c =
    (omega arith, first_asked (QF 0 c.args.v) (λ a b. refl) c.requires)

pub for_each-for_head-q-requires : goal.for_each-for_head-q-requires
for_each-for_head-q-requires t c =
    let a = c.args in
    let rd = parse a.depth a.query.now in
    room_less 5 (first_room (QF 0 a.v) (λ a b. refl) rd a.at a.pen c.requires
    c.expression-a.ensures) (omega arith)

pub for_each-overflow_add-m : goal.for_each-overflow_add-m
for_each-overflow_add-m t c =
    let a = c.args in
    let rd = parse a.depth a.query.now in
    omega (
      arith,
      first_room (QF 0 a.v) (λ a b. refl) rd a.at a.pen c.requires
          c.expression-a.ensures,
    )

pub for_each-overflow_add-m-2 : goal.for_each-overflow_add-m-2
for_each-overflow_add-m-2 t c =
    let a = c.args in
    let rd = parse a.depth a.query.now in
    omega (
      arith,
      first_room (QF 0 a.v) (λ a b. refl) rd a.at a.pen c.requires
          c.expression-a.ensures,
    )

pub for_each-into_body-carried-requires : goal.for_each-into_body-carried-requires
for_each-into_body-carried-requires t c =
    let a = c.args in
    let rd = parse a.depth a.query.now in
    room_less 16
    (head_room (QF 0 a.v) (λ a b. refl) rd a.at a.pen c.requires c.expression-a.ensures
    c.expression-a.result.pen.operators
    c.expression-a.result.table c.for_head-q.ensures)
    (omega arith)

pub for_each-overflow_add-m-3 : goal.for_each-overflow_add-m-3
for_each-overflow_add-m-3 t c =
    let a = c.args in
    let rd = parse a.depth a.query.now in
    omega (
      arith,
      first_room (QF 0 a.v) (λ a b. refl) rd a.at a.pen c.requires
          c.expression-a.ensures,
    )

pub for_each-expression-b-requires : goal.for_each-expression-b-requires
for_each-expression-b-requires t c =
    let a = c.args in
    let rd = parse a.depth a.query.now in (
      omega arith,
      body_asked (QF 0 a.v) (λ a b. refl) rd a.at a.pen c.requires c.expression-a.ensures
          c.expression-a.result.pen.operators
          c.expression-a.result.table c.for_head-q.ensures
          c.into_body-carried.ensures,
    )

pub for_each-overflow_add-m-4 : goal.for_each-overflow_add-m-4
for_each-overflow_add-m-4 t c =
    let a = c.args in
    let rd = parse a.depth a.query.now in
    omega (
      arith,
      first_room (QF 0 a.v) (λ a b. refl) rd a.at a.pen c.requires
          c.expression-a.ensures,
    )

pub for_each-for_tail-requires : goal.for_each-for_tail-requires
for_each-for_tail-requires t c =
    let a = c.args in
    let rd = parse a.depth a.query.now in
    room_less 3
    (body_room (QF 0 a.v) (λ a b. refl) rd a.at a.pen c.requires c.expression-a.ensures
    c.expression-a.result.pen.operators
    c.expression-a.result.table c.for_head-q.ensures
    c.into_body-carried.ensures c.expression-b.ensures)
    (lit≤ tt)

pub for_each-returns : goal.for_each-returns
for_each-returns t c =
    let a = c.args in
    let rd = parse a.depth a.query.now in
    record {
      made = λ o e h.
          for_made rd o c.expression-a.ensures e h a.v c.for_head-q.ensures
          c.into_body-carried.ensures
          c.expression-b.ensures c.for_tail.ensures;
    }

-- `let_in`

pub let_in-expression-a-requires : goal.let_in-expression-a-requires
let_in-expression-a-requires t c =
    (omega arith, first_asked (QT 0 c.args.v) (λ a b. refl) c.requires)

pub let_in-expression-requires : goal.let_in-expression-requires
let_in-expression-requires t c =
    let a = c.args in
    let rd = parse a.depth a.query.now in (
      omega arith,
      second_asked (QT 0 a.v) (λ a b. refl) rd a.at a.pen c.requires
          c.expression-a.ensures,
    )

pub let_in-returns : goal.let_in-returns
let_in-returns t c =
    let a = c.args in
    let rd = parse a.depth a.query.now in
    record {
      made = λ o e h.
          let_made rd o c.expression-a.ensures e h a.v (omega (arith, c.well_formed.1.1.1.1.0))
          (rw c.hold-inner.ensures at c.expression.ensures);
    }

-- `sequence`

pub sequence-expression-a-requires : goal.sequence-expression-a-requires
sequence-expression-a-requires t c =
    (omega arith, first_asked (QS 0) (λ a b. refl) c.requires)

pub sequence-expression-b-requires : goal.sequence-expression-b-requires
sequence-expression-b-requires t c =
    let a = c.args in
    let rd = parse a.depth a.query.now in (
      omega arith,
      second_asked (QS 0) (λ a b. refl) rd a.at a.pen c.requires
          c.expression-a.ensures,
    )

pub sequence-sequence_tail-requires : goal.sequence-sequence_tail-requires
sequence-sequence_tail-requires t c =
    let a = c.args in
    let rd = parse a.depth a.query.now in
    room_less 5 (two_room (QS 0) (λ a b. refl) rd a.at a.pen c.requires c.expression-a.ensures
    c.expression-b.ensures)
    (lit≤ tt)

pub sequence-returns : goal.sequence-returns
unfolding tr
sequence-returns t c =
    let a = c.args in
    let rd = parse a.depth a.query.now in
    record {
      made = λ o e h.
          two_made rd o c.expression-a.ensures e h tail_s c.expression-b.ensures
          c.sequence_tail.ensures;
    }

-- `step`

pub step-expression-a-requires : goal.step-expression-a-requires
step-expression-a-requires t c = (
  omega arith,
  only_asked (QX 0 c.args.axis c.args.test) (λ a. refl)
      c.requires,
)

pub step-step_tail-requires : goal.step-step_tail-requires
step-step_tail-requires t c =
    room_less 4 (one_room (QX 0 c.args.axis c.args.test) (λ a. refl) c.requires
    c.expression-a.ensures) (lit≤ tt)

pub step-returns : goal.step-returns
unfolding tr
step-returns t c =
    record {
      made = λ o e h.
          one_made (λ n x. tail_x n c.args.axis c.args.test x) o.q c.args.l e
          (c.expression-a.ensures.made o e h) c.step_tail.ensures;
    }

-- `values`

pub values-expression-a-requires : goal.values-expression-a-requires
values-expression-a-requires t c =
    (omega arith, only_asked (QD 0) (λ a. refl) c.requires)

pub values-data_tail-requires : goal.values-data_tail-requires
values-data_tail-requires t c =
    room_less 2 (one_room (QD 0) (λ a. refl) c.requires c.expression-a.ensures) (lit≤ tt)

pub values-returns : goal.values-returns
unfolding tr
values-returns t c =
    record {
      made = λ o e h.
          one_made (tail_d) o.q c.args.l e (c.expression-a.ensures.made o e h)
          c.data_tail.ensures;
    }
