-- The cycle of the writer: the depth left falls from a record to its operands.
use mathlib.Core.Path.{◌≡◌}
use native.Mathlib.Omega.{arith}
use Rattle.wording.proofs.Writing.{grouped_is, deep, unsound, headed, head_room, operands_asked, tail_room}
use Rattle.wording.proofs.Writing.{close_room, expression_makes}
use Rattle.wording.proofs.Writing.{none_makes, variable_makes, one_asked, one_makes, two_asked, two_makes}
use Rattle.wording.proofs.Writing.{binding_asked, binding_makes, three_asked, three_makes}
use Rattle.wording.proofs.Writing.{choice_asked, then_room, branch_asked, else_room, other_asked, choice_made}
use Rattle.wording.proofs.Writing.{first_asked, between_room, second_asked, two_made}
use Rattle.wording.proofs.+expression_operands_three_two.Goals as goal

pub expression-returns-in_default : goal.expression-returns-in_default
expression-returns-in_default t c =
    absurd (unsound _ _ _ _ _ c.requires _ c.read.ensures c.in_default.is)

pub expression-overflow_sub-left : goal.expression-overflow_sub-left
expression-overflow_sub-left t c =
    let not-flat : c.args.depth ≡ 0 → ⊥ = deep _ _ _ _ _ c.requires in
    omega (arith, not-flat)

pub expression-put_head-headed-requires : goal.expression-put_head-headed-requires
expression-put_head-headed-requires t c =
    let e = grouped_is _ _ _ c.own.ensures c.looser-grouped.ensures in (
      headed _ _ _ _ _ c.requires _ c.read.ensures _ c.in-Some.is _ e,
      head_room _ _ _ _ _ c.requires _ c.read.ensures _ c.in-Some.is _ e c.put_open-opened.ensures,
    )

pub expression-operands-inner-requires : goal.expression-operands-inner-requires
expression-operands-inner-requires t c =
    let not-flat : c.args.depth ≡ 0 → ⊥ = deep _ _ _ _ _ c.requires in (
      omega (arith, not-flat),
      operands_asked _ _ _ _ _ c.requires _ c.read.ensures _ c.in-Some.is _
          (grouped_is _ _ _ c.own.ensures c.looser-grouped.ensures) c.put_open-opened.ensures
          c.put_head-headed.ensures,
    )

pub expression-put_tail-tailed-requires : goal.expression-put_tail-tailed-requires
expression-put_tail-tailed-requires t c =
    tail_room _ _ _ _ _ c.requires _ c.read.ensures _ c.in-Some.is _
    (grouped_is _ _ _ c.own.ensures c.looser-grouped.ensures) c.put_open-opened.ensures
    c.put_head-headed.ensures c.operands-inner.ensures

pub expression-put_close-closed-requires : goal.expression-put_close-closed-requires
expression-put_close-closed-requires t c =
    close_room _ _ _ _ _ c.requires _ c.read.ensures _ c.in-Some.is _
    (grouped_is _ _ _ c.own.ensures c.looser-grouped.ensures) c.put_open-opened.ensures
    c.put_head-headed.ensures c.operands-inner.ensures c.put_tail-tailed.ensures

pub expression-returns : goal.expression-returns
expression-returns t c =
    expression_makes _ _ _ _ _ c.requires _ c.read.ensures _ c.in-Some.is _
    (grouped_is _ _ _ c.own.ensures c.looser-grouped.ensures) c.put_open-opened.ensures
    c.put_head-headed.ensures c.operands-inner.ensures c.put_tail-tailed.ensures
    c.put_close-closed.ensures

pub operands-expression-requires : goal.operands-expression-requires
operands-expression-requires t c =
    (omega arith, one_asked _ _ _ _ c.following.ensures c.in-One.is _ c.first.ensures _ c.requires)

pub operands-two-requires : goal.operands-two-requires
operands-two-requires t c =
    (omega arith, two_asked _ _ _ _ c.following.ensures c.in-Two.is _ c.requires)

pub operands-two-requires-in-Binding : goal.operands-two-requires-in-Binding
operands-two-requires-in-Binding t c =
    (omega arith, binding_asked _ _ _ _ c.following.ensures _ c.in-Binding.is _ c.requires)

pub operands-three-requires : goal.operands-three-requires
operands-three-requires t c =
    (omega arith, three_asked _ _ _ _ c.following.ensures c.in-Three.is _ c.requires)

pub operands-returns-in-None : goal.operands-returns-in-None
operands-returns-in-None t c =
    none_makes _ _ _ _ c.following.ensures _ _ c.in-None.is

pub operands-returns-in-Variable : goal.operands-returns-in-Variable
operands-returns-in-Variable t c =
    variable_makes _ _ _ _ c.following.ensures _ _ _ c.in-Variable.is

pub operands-returns-in-One : goal.operands-returns-in-One
operands-returns-in-One t c =
    one_makes _ _ _ _ c.following.ensures c.in-One.is _ c.first.ensures c.expression.ensures

pub operands-returns-in-Two : goal.operands-returns-in-Two
operands-returns-in-Two t c =
    two_makes _ _ _ _ c.following.ensures c.in-Two.is c.two.ensures

pub operands-returns-in-Binding : goal.operands-returns-in-Binding
operands-returns-in-Binding t c =
    binding_makes _ _ _ _ c.following.ensures _ c.in-Binding.is c.two-in-Binding.ensures

pub operands-returns-in-Three : goal.operands-returns-in-Three
operands-returns-in-Three t c =
    three_makes _ _ _ _ c.following.ensures c.in-Three.is c.three.ensures

pub three-expression-c-requires : goal.three-expression-c-requires
three-expression-c-requires t c =
    (omega arith, choice_asked _ _ _ c.requires)

pub three-put_word-first-requires : goal.three-put_word-first-requires
three-put_word-first-requires t c =
    then_room _ _ _ c.requires c.expression-c.ensures

pub three-expression-a-requires : goal.three-expression-a-requires
three-expression-a-requires t c =
    (omega arith, branch_asked _ _ _ c.requires c.expression-c.ensures c.put_word-first.ensures)

pub three-put_word-second-requires : goal.three-put_word-second-requires
three-put_word-second-requires t c =
    else_room _ _ _ c.requires c.expression-c.ensures c.put_word-first.ensures
    c.expression-a.ensures

pub three-expression-requires : goal.three-expression-requires
three-expression-requires t c = (
  omega arith,
  other_asked _ _ _ c.requires c.expression-c.ensures c.put_word-first.ensures
      c.expression-a.ensures c.put_word-second.ensures,
)

pub three-returns : goal.three-returns
three-returns t c =
    choice_made _ _ _ c.requires c.expression-c.ensures c.put_word-first.ensures
    c.expression-a.ensures c.put_word-second.ensures c.expression.ensures

pub two-expression-a-requires : goal.two-expression-a-requires
two-expression-a-requires t c =
    (omega arith, first_asked _ _ _ _ c.requires _ c.first.ensures)

pub two-put_between-between-requires : goal.two-put_between-between-requires
two-put_between-between-requires t c =
    between_room _ _ _ _ c.requires _
    c.first.ensures c.expression-a.ensures

pub two-expression-requires : goal.two-expression-requires
two-expression-requires t c = (
  omega arith,
  second_asked _ _ _ _ c.requires _ c.first.ensures c.expression-a.ensures
      c.put_between-between.ensures _ c.second.ensures,
)

pub two-returns : goal.two-returns
two-returns t c =
    two_made _ _ _ _ c.requires _
    c.first.ensures c.expression-a.ensures c.put_between-between.ensures
    _ c.second.ensures c.expression.ensures
