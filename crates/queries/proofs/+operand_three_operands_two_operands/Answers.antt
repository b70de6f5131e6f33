-- The query check's recursion follows `walk`: the depth left falls from a record to its operands.
use mathlib.Core.Path.{◌∙◌}
use native.Mathlib.Omega.{arith}
use Rattle.std.proofs.lemmas.Result.{err_from_is_err_and}
use Rattle.query_records.specs.declared.Operands.TheVariants.{None, Variable, One, Two, Binding, Three}
use Rattle.queries.specs.Answers.{walked}
use Rattle.queries.specs.Walk.{steps, two, three}
use Rattle.queries.proofs.Walking.{walk_unsound, walk_deep, walk_many, walk_sound, walk_refused, walk_stopped}
use Rattle.queries.proofs.Walking.{walk_passed}
use Rattle.queries.proofs.+operand_three_operands_two_operands.Goals as goal

pub operand-returns-in_default : goal.operand-returns-in_default
operand-returns-in_default t c =
    let a = c.args in
    let r = c.read in
    walk_refused _ _ _ c.refused.ensures
    ∙ walk_unsound a.query.now a.at r.result r.ensures.means a.depth a.flags a.n c.in_default.is

pub operand-returns-then-depth-eq0 : goal.operand-returns-then-depth-eq0
operand-returns-then-depth-eq0 t c =
    let a = c.args in
    let r = c.read in
    let f = c.in-Some in
    walk_refused _ _ _ c.refused-then-depth-eq0.ensures
    ∙ walk_deep a.query.now a.at r.result r.ensures.means a.depth a.flags a.n f.found f.is c.if-depth-eq0.true

pub operand-returns-then-full : goal.operand-returns-then-full
operand-returns-then-full t c =
    let a = c.args in
    let r = c.read in
    let f = c.in-Some in
    walk_refused _ _ _ c.refused-then-full.ensures
    ∙ walk_many a.query.now a.at r.result r.ensures.means a.depth a.flags a.n f.found f.is c.if-full.true

pub operand-returns-in-None : goal.operand-returns-in-None
unfolding walked steps
operand-returns-in-None t c =
    let a = c.args in
    let r = c.read in
    let f = c.in-Some in
    walk_sound a.query.now a.at r.result r.ensures.means a.depth a.flags a.n f.found f.is
    c.following.result None c.if-depth-eq0.false (omega arith) c.following.ensures c.in-None.is

pub operand-returns-in-Variable : goal.operand-returns-in-Variable
unfolding steps
operand-returns-in-Variable t c =
    let a = c.args in
    let r = c.read in
    let f = c.in-Some in
    c.lookup.ensures
    ∙ (walk_sound a.query.now a.at r.result r.ensures.means a.depth a.flags a.n f.found f.is
    c.following.result (Variable _) c.if-depth-eq0.false (omega arith) c.following.ensures c.in-Variable.is)

pub operand-returns-in-One : goal.operand-returns-in-One
unfolding steps
operand-returns-in-One t c =
    let a = c.args in
    let r = c.read in
    let f = c.in-Some in
    c.operand.ensures
    ∙ (walk_sound a.query.now a.at r.result r.ensures.means a.depth a.flags a.n f.found f.is
    c.following.result One c.if-depth-eq0.false (omega arith) c.following.ensures c.in-One.is)

pub operand-returns-in-Two : goal.operand-returns-in-Two
unfolding steps
operand-returns-in-Two t c =
    let a = c.args in
    let r = c.read in
    let f = c.in-Some in
    c.two_operands.ensures
    ∙ (walk_sound a.query.now a.at r.result r.ensures.means a.depth a.flags a.n f.found f.is
    c.following.result Two c.if-depth-eq0.false (omega arith) c.following.ensures c.in-Two.is)

pub operand-returns-in-Binding : goal.operand-returns-in-Binding
unfolding steps
operand-returns-in-Binding t c =
    let a = c.args in
    let r = c.read in
    let f = c.in-Some in
    (rw c.with-inner.ensures at c.two_operands-in-Binding.ensures)
    ∙ (walk_sound a.query.now a.at r.result r.ensures.means a.depth a.flags a.n f.found f.is
    c.following.result (Binding c.in-Binding.v) c.if-depth-eq0.false (omega arith) c.following.ensures c.in-Binding.is)

pub operand-returns-in-Three : goal.operand-returns-in-Three
unfolding steps
operand-returns-in-Three t c =
    let a = c.args in
    let r = c.read in
    let f = c.in-Some in
    c.three_operands.ensures
    ∙ (walk_sound a.query.now a.at r.result r.ensures.means a.depth a.flags a.n f.found f.is
    c.following.result Three c.if-depth-eq0.false (omega arith) c.following.ensures c.in-Three.is)

pub three_operands-returns-in_err-next : goal.three_operands-returns-in_err-next
unfolding three
three_operands-returns-in_err-next t c =
    let p = err_from_is_err_and c.from_residual.result c.from_residual.ensures.1 in
    rw (p.1, p.2) (walk_stopped c.operand.result _ _ c.operand.ensures c.in_err-next.field-0.0 c.in_err-next.was)

pub three_operands-returns : goal.three_operands-returns
unfolding three
three_operands-returns t c =
    c.two_operands.ensures ∙ walk_passed c.operand.result _ _ c.operand.ensures c.in_ok-next.field-0 c.in_ok-next.was

pub two_operands-returns-in_err-next : goal.two_operands-returns-in_err-next
unfolding two
two_operands-returns-in_err-next t c =
    let p = err_from_is_err_and c.from_residual.result c.from_residual.ensures.1 in
    rw (p.1, p.2) (walk_stopped c.operand.result _ _ c.operand.ensures c.in_err-next.field-0.0 c.in_err-next.was)

pub two_operands-returns : goal.two_operands-returns
unfolding two
two_operands-returns t c =
    c.operand-2.ensures ∙ walk_passed c.operand.result _ _ c.operand.ensures c.in_ok-next.field-0 c.in_ok-next.was
