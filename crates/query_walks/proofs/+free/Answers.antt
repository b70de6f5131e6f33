-- `free` meets its contract: the free variables of the operands, put together by the record; the depth left falls.
use native.Mathlib.Omega.{arith}
use Rattle.query_records.specs.declared.Operands.TheVariants.{None, Variable, One, Two, Binding, Three}
use Rattle.query_walks.proofs.Skipping.{parse_deep, parse_unsound, parse_sound}
use Rattle.query_walks.proofs.Skipping.{free_none, free_variable, free_one, free_two, free_binding, free_three}
use Rattle.query_walks.proofs.+free.Goals as goal

pub returns-then-depth-eq0 : goal.returns-then-depth-eq0
returns-then-depth-eq0 t c =
    let a = c.args in
    λ x p. absurd (parse_deep a.query.now a.at a.depth c.if-depth-eq0.true x p)

pub returns-in_default : goal.returns-in_default
returns-in_default t c =
    let a = c.args in
    let r = c.read in
    λ x p. absurd
    (parse_unsound a.query.now a.at r.result r.ensures a.depth c.in_default.is x p)

pub overflow_sub-left : goal.overflow_sub-left
overflow_sub-left t c =
    omega (arith, c.if-depth-eq0.false)

pub returns-in-None : goal.returns-in-None
returns-in-None t c =
    λ x p. free_none _ _ _ _
    (parse_sound c.args.query.now c.args.at c.read.result c.read.ensures c.args.depth c.in-Some.found
    c.following.result None c.in-Some.is c.if-depth-eq0.false c.following.ensures c.in-None.is x p)

pub returns-in-Variable : goal.returns-in-Variable
returns-in-Variable t c =
    λ x p.
    let v = c.in-Variable in
    rw c.with.ensures
    (free_variable _ _ _ _ v.v
    (parse_sound c.args.query.now c.args.at c.read.result c.read.ensures c.args.depth c.in-Some.found
    c.following.result (Variable v.v) c.in-Some.is c.if-depth-eq0.false c.following.ensures v.is x p))

pub returns-in-One : goal.returns-in-One
returns-in-One t c =
    λ x p.
    free_one _ _ _ _ c.free.result c.free.ensures
    (parse_sound c.args.query.now c.args.at c.read.result c.read.ensures c.args.depth c.in-Some.found
    c.following.result One c.in-Some.is c.if-depth-eq0.false c.following.ensures c.in-One.is x p)

pub returns-in-Two : goal.returns-in-Two
returns-in-Two t c =
    λ x p.
    let a = c.free-in-Two in
    let b = c.free-in-Two-2 in
    free_two _ _ _ _ _ a.result b.result c.either.result c.skip.ensures
    a.ensures b.ensures c.either.ensures
    (parse_sound c.args.query.now c.args.at c.read.result c.read.ensures c.args.depth c.in-Some.found
    c.following.result Two c.in-Some.is c.if-depth-eq0.false c.following.ensures c.in-Two.is x p)

pub returns-in-Binding : goal.returns-in-Binding
returns-in-Binding t c =
    λ x p.
    let v = c.in-Binding in
    let a = c.free-in-Binding in
    let b = c.free-b in
    free_binding _ _ _ _ v.v _ a.result b.result c.either-in-Binding.result
    c.skip-in-Binding.ensures a.ensures b.ensures
    (rw c.with-in-Binding.ensures at c.either-in-Binding.ensures)
    (parse_sound c.args.query.now c.args.at c.read.result c.read.ensures c.args.depth c.in-Some.found
    c.following.result (Binding v.v) c.in-Some.is c.if-depth-eq0.false c.following.ensures v.is x p)

pub returns-in-Three : goal.returns-in-Three
returns-in-Three t c =
    λ x p.
    let q = c.free-in-Three in
    let a = c.free-in-Three-2 in
    let b = c.free-in-Three-3 in
    let m = c.either-in-Three in
    free_three _ _ _ _ _ _ q.result a.result b.result m.result c.either-in-Three-2.result
    c.skip-a.ensures
    c.skip-b.ensures
    q.ensures a.ensures b.ensures m.ensures c.either-in-Three-2.ensures
    (parse_sound c.args.query.now c.args.at c.read.result c.read.ensures c.args.depth c.in-Some.found
    c.following.result Three c.in-Some.is c.if-depth-eq0.false c.following.ensures c.in-Three.is x p)
