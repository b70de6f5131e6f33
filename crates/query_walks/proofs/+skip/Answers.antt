-- `skip` meets its contract: the operands of the record at an offset, one after another; the depth left falls.
use native.Mathlib.Omega.{arith}
use Rattle.query_records.specs.declared.Operands.TheVariants.{None, Variable, One, Two, Binding, Three}
use Rattle.query_walks.specs.Statements.{Spans}
use Rattle.query_walks.proofs.Skipping.{parse_deep, parse_unsound, parse_sound, past_one, past_two, past_binding}
use Rattle.query_walks.proofs.Skipping.{past_three}
use Rattle.query_walks.proofs.+skip.Goals as goal

pub returns-then-depth-eq0 : goal.returns-then-depth-eq0
returns-then-depth-eq0 t c =
    let a = c.args in
    λ x p. absurd (parse_deep a.query.now a.at a.depth c.if-depth-eq0.true x p)

pub returns-in_default : goal.returns-in_default
returns-in_default t c =
    let a = c.args in
    let r = c.read in
    λ x p. absurd
    (parse_unsound a.query.now a.at r.result r.ensures a.depth c.in_default.is x p)

pub overflow_sub-left : goal.overflow_sub-left
overflow_sub-left t c =
    omega (arith, c.if-depth-eq0.false)

pub returns-in-None : goal.returns-in-None
unfolding Spans
returns-in-None t c =
    λ x p. (parse_sound c.args.query.now c.args.at c.read.result c.read.ensures c.args.depth c.in-Some.found
    c.following.result None c.in-Some.is c.if-depth-eq0.false c.following.ensures c.in-None.is x p).0

pub returns-in-Variable : goal.returns-in-Variable
unfolding Spans
returns-in-Variable t c =
    λ x p. (parse_sound c.args.query.now c.args.at c.read.result c.read.ensures c.args.depth c.in-Some.found
    c.following.result (Variable _) c.in-Some.is c.if-depth-eq0.false c.following.ensures c.in-Variable.is x p).0

pub returns-in-One : goal.returns-in-One
returns-in-One t c =
    λ x p.
    past_one _ _ _ _ _ c.skip.ensures
    (parse_sound c.args.query.now c.args.at c.read.result c.read.ensures c.args.depth c.in-Some.found
    c.following.result One c.in-Some.is c.if-depth-eq0.false c.following.ensures c.in-One.is x p)

pub returns-in-Two : goal.returns-in-Two
returns-in-Two t c =
    λ x p.
    past_two _ _ _ _ _ _ c.skip-in-Two.ensures c.skip-in-Two-2.ensures
    (parse_sound c.args.query.now c.args.at c.read.result c.read.ensures c.args.depth c.in-Some.found
    c.following.result Two c.in-Some.is c.if-depth-eq0.false c.following.ensures c.in-Two.is x p)

pub returns-in-Binding : goal.returns-in-Binding
returns-in-Binding t c =
    λ x p.
    past_binding _ _ _ _ _ _ _ c.skip-in-Binding.ensures c.skip-in-Binding-2.ensures
    (parse_sound c.args.query.now c.args.at c.read.result c.read.ensures c.args.depth c.in-Some.found
    c.following.result (Binding _) c.in-Some.is c.if-depth-eq0.false c.following.ensures c.in-Binding.is x p)

pub returns-in-Three : goal.returns-in-Three
returns-in-Three t c =
    λ x p.
    past_three _ _ _ _ _ _ _ c.skip-in-Three.ensures c.skip-in-Three-2.ensures c.skip-in-Three-3.ensures
    (parse_sound c.args.query.now c.args.at c.read.result c.read.ensures c.args.depth c.in-Some.found
    c.following.result Three c.in-Some.is c.if-depth-eq0.false c.following.ensures c.in-Three.is x p)
