-- The cycle of the reader: each member meets its contract.
use Prim.Native.Nat.{ℕ}
use mathlib.Core.Path.{◌≡◌, refl, sym, ap, ◌∙◌}
use mathlib.Core.List.{[]}
use mathlib.Core.Bool.{false}
use native.Mathlib.Omega.{arith}
use lib.ListN.{drop}
use Rattle.grammar.specs.Words.{symbol}
use Rattle.parsing.specs.Reader.{readers}
use Rattle.spelling.proofs.Answering.{passed, stopped, handed_up}
use Rattle.operands.proofs.Follows.{past_part, no_part, part_by, part_up}
use Rattle.operands.proofs.Stepping.{run_start, run_ends, run_stuck, run_more}
use Rattle.typing.specs.Cycle.{level_of, one_turn, more_of}
use Rattle.typing.proofs.Chains.{chain_off, chain_stuck, chain_none, chain_more}
use Rattle.typing.proofs.Inside.{single_stuck, single_suc, expr_stuck, expr_suc}
use Rattle.typing.proofs.Parts.{two_on, two_stuck, three_on, three_off, three_stuck}
use Rattle.typing.proofs.Parts.{begun_operand, operand_on, operand_off}
use Rattle.typing.proofs.Parts.{none_opens, whole_opens, list_opens, call_opens, list_ended, call_ended}
use Rattle.typing.proofs.Parts.{path_on, path_off, chain_read, chain_halts, turned}
use Rattle.typing.proofs.Parts.{sides_stuck, sides_off, sides_on}
use Rattle.typing.proofs.Parts.{binding_begins, choice_begins, sides_begin, none_begins}
use Rattle.typing.proofs.Parts.{binding_read, choice_read, sides_read}
use Rattle.typing.proofs.+text.Goals as goal

-- an operator of the chain comes
on_level : {a b x y : ℕ} → a ≡ b → a ≡ x → b ≡ y → x ≡ y
on_level e f g = sym f ∙ e ∙ g

-- `choice`
pub choice-list-requires : goal.choice-list-requires
choice-list-requires t c = (omega arith, (c.requires.0, c.requires.1, c.requires.2))

pub choice-returns-in_err-condition : goal.choice-returns-in_err-condition
choice-returns-in_err-condition t c =
    part_up _ _ c.from_residual.ensures.1
    (three_stuck (readers c.args.left) c.args.parens c.args.ends _
    (no_part c.list.ensures c.in_err-condition.was))

pub choice-fixed-requires : goal.choice-fixed-requires
choice-fixed-requires t c = (past_part c.list.ensures c.in_ok-condition.was).inside

pub choice-returns-in_err-next : goal.choice-returns-in_err-next
choice-returns-in_err-next t c =
    part_up _ _ c.from_residual-in_err-next.ensures.1
    (three_off (readers c.args.left) c.args.parens c.args.ends
    (past_part c.list.ensures c.in_ok-condition.was) (stopped c.fixed.ensures c.in_err-next.was))

pub choice-two-requires : goal.choice-two-requires
choice-two-requires t c =
    let g = past_part c.list.ensures c.in_ok-condition.was in (
      omega arith,
      (
        (passed c.fixed.ensures c.in_ok-next.was).inside,
        omega (arith, c.list.auto.query, c.requires.1),
        g.within,
      ),
    )

pub choice-returns : goal.choice-returns
choice-returns t c =
    three_on (readers c.args.left) c.args.parens c.args.ends
    (past_part c.list.ensures c.in_ok-condition.was) (passed c.fixed.ensures c.in_ok-next.was) _
    c.two.ensures

-- `inner`
pub inner-returns-then-left-eq0 : goal.inner-returns-then-left-eq0
inner-returns-then-left-eq0 t c =
    single_stuck _ _ _ c.args.parens _ c.args.left (omega arith) c.requires.0
    c.args.ends _

pub inner-single-requires : goal.inner-single-requires
inner-single-requires t c =
    (omega arith, (c.requires.0, c.requires.1, c.requires.2))

pub inner-returns : goal.inner-returns
inner-returns t c =
    part_by _ (single_suc c.args.parens _ c.args.ends _ c.args.left c.if-left-eq0.false)
    c.single.ensures

-- `list`
pub list-returns-then-left-eq0 : goal.list-returns-then-left-eq0
list-returns-then-left-eq0 t c =
    expr_stuck _ _ _ c.args.parens _ c.args.left (omega arith) c.requires.0

pub list-whole-requires : goal.list-whole-requires
list-whole-requires t c =
    (omega arith, (c.requires.0, c.requires.1, c.requires.2, λ e. omega (arith, e)))

pub list-returns : goal.list-returns
list-returns t c =
    part_by _ (expr_suc c.args.parens _ false false c.args.left c.if-left-eq0.false)
    c.whole.ensures

-- `more`
pub more-loop-ends-init : goal.more-loop-ends-init
more-loop-ends-init t c =
    let p = c.args.part in
    record {
      inside = c.requires.0;
      long = c.requires.1;
      within = c.requires.2;
      behind = c.requires.3;
      grows = omega arith;
      fewer = omega arith;
      runs = λ ys. run_start
          (λ zs. more_of c.args.chain (readers c.args.left) c.args.parens c.args.ends
          c.args.compared zs p.behind (drop p.next c.args.text.now));
    }

pub more-turn-requires : goal.more-turn-requires
more-turn-requires t c =
    let i = c.loop-ends.invariant in
    (omega (arith, i.fewer), (i.inside, i.long, i.within, i.behind))

pub more-returns-in_err-next : goal.more-returns-in_err-next
more-returns-in_err-next t c =
    λ ys.
    let l = c.loop-ends in
    run_stuck (l.invariant.runs ys) _ _ (handed_up _ c.from_residual.ensures.1)
    (λ zs.
    let halts = no_part (c.turn.ensures zs) c.in_err-next.was in
    record {
      means =
          chain_stuck c.args.parens c.args.ends c.args.compared c.args.chain l.left zs l.part.behind _
          (on_level c.loop-ends-test.true c.tightness.ensures c.level.ensures) halts.means;
      inside = halts.inside;
    })

pub more-returns-then-left-eq0 : goal.more-returns-then-left-eq0
more-returns-then-left-eq0 t c =
    λ ys.
    let l = c.loop-ends in
    run_stuck (l.invariant.runs ys) _ _ refl
    (λ zs.
    let one = past_part (c.turn.ensures zs) c.in_ok-next.was in
    record {
      means =
          chain_none c.args.parens c.args.ends c.args.compared c.args.chain l.left zs l.part.behind _
          (on_level c.loop-ends-test.true c.tightness.ensures c.level.ensures) c.requires.4
          c.if-left-eq0.true _ one.means;
      inside = one.inside;
    })

pub more-loop-ends-preserved : goal.more-loop-ends-preserved
more-loop-ends-preserved t c =
    let l = c.loop-ends in
    let i = l.invariant in
    let first = past_part (c.turn.ensures []) c.in_ok-next.was in
    record {
      inside = first.inside;
      long = omega (arith, c.turn.auto.query, i.long);
      within = first.within;
      behind = omega (arith, first.grows, i.behind);
      grows = omega (arith, first.grows, i.grows);
      fewer = omega (arith, i.fewer);
      runs = λ ys.
          run_more (i.runs ys)
          (λ zs. one_turn c.args.chain (readers l.left) c.args.parens c.args.ends c.args.compared
          zs l.part.behind (drop l.part.next c.args.text.now)) _
          (λ zs. past_part (c.turn.ensures zs) c.in_ok-next.was)
          (λ zs ws e.
          chain_more c.args.parens c.args.ends c.args.compared c.args.chain l.left zs l.part.behind _
          (on_level c.loop-ends-test.true c.tightness.ensures c.level.ensures) c.requires.4
          c.if-left-eq0.false _ e);
    }

pub more-returns : goal.more-returns
more-returns t c =
    λ ys.
    let l = c.loop-ends in
    run_ends (l.invariant.runs ys) l.part.behind
    (λ zs.
    chain_off c.args.chain (readers l.left) c.args.parens c.args.ends c.args.compared zs l.part.behind _
    (λ e. c.loop-ends-test.false (omega (arith, e, c.tightness.ensures, c.level.ensures))))
    l.invariant.inside
    l.invariant.grows
    l.invariant.within

-- `operand`
pub operand-truth-requires : goal.operand-truth-requires
operand-truth-requires t c = (c.requires.0, c.requires.1, c.requires.2)

pub operand-returns-then-begun : goal.operand-returns-then-begun
operand-returns-then-begun t c =
    begun_operand (readers c.args.left) c.args.parens _ _ c.args.begun c.if-begun.true
    _ c.truth.ensures

pub operand-returns-in_err-from : goal.operand-returns-in_err-from
operand-returns-in_err-from t c =
    part_up _ _ c.from_residual.ensures.1
    (operand_off (readers c.args.left) c.args.parens _ _ c.args.begun c.if-begun.false
    (stopped c.enter.ensures c.in_err-from.was))

pub operand-primary-requires : goal.operand-primary-requires
operand-primary-requires t c =
    ((passed c.enter.ensures c.in_ok-from.was).inside, c.requires.1, c.requires.2)

pub operand-returns-in_err-read : goal.operand-returns-in_err-read
operand-returns-in_err-read t c =
    rw (handed_up _ c.from_residual-in_err-read.ensures.1)
    (operand_on (readers c.args.left) c.args.parens _ _ c.args.begun c.if-begun.false
    (passed c.enter.ensures c.in_ok-from.was) _
    (none_opens (c.primary.ensures (readers c.args.left)) c.in_err-read.was))

pub operand-list-requires : goal.operand-list-requires
operand-list-requires t c =
    let l = list_opens (c.primary.ensures (readers c.args.left)) c.in_ok-read.was c.in-List.is in (
      omega arith,
      (l.inside, omega (arith, c.primary.auto.query, c.requires.1), c.requires.2),
    )

pub operand-inner-requires : goal.operand-inner-requires
operand-inner-requires t c =
    let l = call_opens (c.primary.ensures (readers c.args.left)) c.in_ok-read.was c.in-Call.is in (
      omega arith,
      (l.inside, omega (arith, c.primary.auto.query, c.requires.1), l.added.within),
    )

pub operand-returns-in-Whole : goal.operand-returns-in-Whole
operand-returns-in-Whole t c =
    operand_on (readers c.args.left) c.args.parens _ _ c.args.begun c.if-begun.false
    (passed c.enter.ensures c.in_ok-from.was) _
    (whole_opens (c.primary.ensures (readers c.args.left)) c.in_ok-read.was c.in-Whole.is)

pub operand-returns-in-List : goal.operand-returns-in-List
operand-returns-in-List t c =
    rw c.ended.ensures
    (operand_on (readers c.args.left) c.args.parens _ _ c.args.begun c.if-begun.false
    (passed c.enter.ensures c.in_ok-from.was) _
    (list_ended
    (list_opens (c.primary.ensures (readers c.args.left)) c.in_ok-read.was c.in-List.is) _
    c.list.ensures))

pub operand-returns-in-Call : goal.operand-returns-in-Call
operand-returns-in-Call t c =
    rw c.ended-in-Call.ensures
    (operand_on (readers c.args.left) c.args.parens _ _ c.args.begun c.if-begun.false
    (passed c.enter.ensures c.in_ok-from.was) _
    (call_ended
    (call_opens (c.primary.ensures (readers c.args.left)) c.in_ok-read.was c.in-Call.is) _
    c.inner.ensures))

-- `path`
pub path-operand-requires : goal.path-operand-requires
path-operand-requires t c = (omega arith, (c.requires.0, c.requires.1, c.requires.2))

pub path-returns-in_err-first : goal.path-returns-in_err-first
path-returns-in_err-first t c =
    part_up _ _ c.from_residual.ensures.1
    (path_off (readers c.args.left) c.args.parens c.args.ends c.args.compared c.args.begun _ _
    (no_part c.operand.ensures c.in_err-first.was))

pub path-behind-requires : goal.path-behind-requires
path-behind-requires t c =
    let g = past_part c.operand.ensures c.in_ok-first.was in
    (g.inside, omega (arith, c.operand.auto.query, c.requires.1), g.within, g.grows)

pub path-returns : goal.path-returns
path-returns t c =
    path_on (readers c.args.left) c.args.parens c.args.ends c.args.compared c.args.begun _ _ _
    (past_part c.operand.ensures c.in_ok-first.was) _
    c.behind.ensures

-- `side`
pub side-single-requires : goal.side-single-requires
side-single-requires t c = (
  omega (arith, ap level_of c.in-Items.is),
  (c.requires.0, c.requires.1, c.requires.2),
)

pub side-whole-requires : goal.side-whole-requires
side-whole-requires t c = (
  omega (arith, ap level_of c.in-Sides.is),
  (c.requires.0, c.requires.1, c.requires.2, λ e. omega (arith, e)),
)

pub side-whole-requires-in-Terms : goal.side-whole-requires-in-Terms
side-whole-requires-in-Terms t c = (
  omega (arith, ap level_of c.in-Terms.is),
  (c.requires.0, c.requires.1, c.requires.2, λ e. omega (arith, e)),
)

pub side-path-requires : goal.side-path-requires
side-path-requires t c = (
  omega (arith, ap level_of c.in-Factors.is),
  (c.requires.0, c.requires.1, c.requires.2),
)

pub side-returns-in-Items : goal.side-returns-in-Items
side-returns-in-Items t c =
    rw c.in-Items.is c.single.ensures

pub side-returns-in-Sides : goal.side-returns-in-Sides
side-returns-in-Sides t c =
    rw c.in-Sides.is c.whole.ensures

pub side-returns-in-Terms : goal.side-returns-in-Terms
side-returns-in-Terms t c =
    rw c.in-Terms.is c.whole-in-Terms.ensures

pub side-returns-in-Factors : goal.side-returns-in-Factors
side-returns-in-Factors t c =
    rw c.in-Factors.is c.path.ensures

-- `sides`
pub sides-side-requires : goal.sides-side-requires
sides-side-requires t c = (omega arith, (c.requires.0, c.requires.1, c.requires.2))

pub sides-returns-in_err-first : goal.sides-returns-in_err-first
sides-returns-in_err-first t c =
    part_up _ _ c.from_residual.ensures.1
    (sides_stuck (readers c.args.left) c.args.parens c.args.ends c.args.begun symbol _
    (no_part c.side.ensures c.in_err-first.was))

pub sides-returns-then-tightness-ne1 : goal.sides-returns-then-tightness-ne1
sides-returns-then-tightness-ne1 t c =
    sides_off (readers c.args.left) c.args.parens c.args.ends c.args.begun symbol _
    (past_part c.side.ensures c.in_ok-first.was)
    (λ e. c.if-tightness-ne1.true (omega (arith, c.tightness.ensures, e)))

pub sides-turn-requires : goal.sides-turn-requires
sides-turn-requires t c =
    let g = past_part c.side.ensures c.in_ok-first.was in (
      omega arith,
      (g.inside, omega (arith, c.side.auto.query, c.requires.1), g.within, g.grows),
    )

pub sides-returns : goal.sides-returns
sides-returns t c =
    sides_on (readers c.args.left) c.args.parens c.args.ends c.args.begun symbol _
    (past_part c.side.ensures c.in_ok-first.was)
    (omega (arith, c.tightness.ensures, c.if-tightness-ne1.false)) _
    c.turn.ensures

-- `single`
pub single-single-requires : goal.single-single-requires
single-single-requires t c = (c.requires.0, c.requires.1, c.requires.2)

pub single-returns-in_err-from : goal.single-returns-in_err-from
single-returns-in_err-from t c =
    part_up _ _ c.from_residual.ensures.1
    (none_begins (c.single.ensures (readers c.args.left) c.args.parens c.args.ends)
    c.in_err-from.was)

pub single-two-requires : goal.single-two-requires
single-two-requires t c =
    let b = binding_begins (c.single.ensures (readers c.args.left) c.args.parens c.args.ends)
    c.in_ok-from.was c.in-Binding.is in (
      omega arith,
      (b.inside, omega (arith, c.single.auto.query, c.requires.1), b.added.within),
    )

pub single-choice-requires : goal.single-choice-requires
single-choice-requires t c =
    let b = choice_begins (c.single.ensures (readers c.args.left) c.args.parens c.args.ends)
    c.in_ok-from.was c.in-Choice.is in (
      omega arith,
      (b.inside, omega (arith, c.single.auto.query, c.requires.1), b.added.within),
    )

pub single-sides-requires : goal.single-sides-requires
single-sides-requires t c =
    let b = sides_begin (c.single.ensures (readers c.args.left) c.args.parens c.args.ends)
    c.in_ok-from.was c.in-Sides.is in (
      omega arith,
      (b.inside, omega (arith, c.single.auto.query, c.requires.1), c.requires.2),
    )

pub single-returns-in-Binding : goal.single-returns-in-Binding
single-returns-in-Binding t c =
    binding_read
    (binding_begins (c.single.ensures (readers c.args.left) c.args.parens c.args.ends)
    c.in_ok-from.was c.in-Binding.is) _
    c.two.ensures

pub single-returns-in-Choice : goal.single-returns-in-Choice
single-returns-in-Choice t c =
    choice_read
    (choice_begins (c.single.ensures (readers c.args.left) c.args.parens c.args.ends)
    c.in_ok-from.was c.in-Choice.is) _
    c.choice.ensures

pub single-returns-in-Sides : goal.single-returns-in-Sides
single-returns-in-Sides t c =
    sides_read
    (sides_begin (c.single.ensures (readers c.args.left) c.args.parens c.args.ends)
    c.in_ok-from.was c.in-Sides.is) _
    c.sides.ensures

-- `turn`
pub turn-insert_operation-to-requires : goal.turn-insert_operation-to-requires
turn-insert_operation-to-requires t c = (c.requires.1, c.requires.2, c.requires.3)

pub turn-side-requires : goal.turn-side-requires
turn-side-requires t c = (
  omega arith,
  (
    c.requires.0,
    omega (arith, c.insert_operation-to.auto.query, c.requires.1),
    c.insert_operation-to.ensures.within,
  ),
)

pub turn-returns : goal.turn-returns
turn-returns t c =
    λ ys.
    turned c.args.chain (readers c.args.left) c.args.parens c.args.ends c.args.compared
    c.args.part.behind _ _ ys _ c.insert_operation-to.ensures c.kind_of.ensures c.side.ensures

-- `two`
pub two-inner-requires : goal.two-inner-requires
two-inner-requires t c = (omega arith, (c.requires.0, c.requires.1, c.requires.2))

pub two-returns-in_err-one : goal.two-returns-in_err-one
two-returns-in_err-one t c =
    part_up _ _ c.from_residual.ensures.1
    (two_stuck (readers c.args.left) c.args.parens c.args.first _ c.args.ends _
    (no_part c.inner.ensures c.in_err-one.was))

pub two-inner-requires-2 : goal.two-inner-requires-2
two-inner-requires-2 t c =
    let g = past_part c.inner.ensures c.in_ok-one.was in (
      omega arith,
      (g.inside, omega (arith, c.inner.auto.query, c.requires.1), g.within),
    )

pub two-returns : goal.two-returns
two-returns t c =
    two_on (readers c.args.left) c.args.parens c.args.first _ c.args.ends
    (past_part c.inner.ensures c.in_ok-one.was) _ c.inner-2.ensures

-- `whole`
pub whole-side-requires : goal.whole-side-requires
whole-side-requires t c = (omega arith, (c.requires.0, c.requires.1, c.requires.2))

pub whole-returns-in_err-first : goal.whole-returns-in_err-first
whole-returns-in_err-first t c =
    part_up _ _ c.from_residual.ensures.1
    (chain_halts c.args.chain (readers c.args.left) c.args.parens c.args.ends c.args.compared
    c.args.begun _ _ (no_part c.side.ensures c.in_err-first.was))

pub whole-more-requires : goal.whole-more-requires
whole-more-requires t c =
    let g = past_part c.side.ensures c.in_ok-first.was in (
      omega arith,
      (g.inside, omega (arith, c.side.auto.query, c.requires.1), g.within, g.grows, c.requires.3),
    )

pub whole-returns : goal.whole-returns
whole-returns t c =
    chain_read c.args.chain (readers c.args.left) c.args.parens c.args.ends c.args.compared
    c.args.begun _ _ (past_part c.side.ensures c.in_ok-first.was) _
    c.more.ensures
