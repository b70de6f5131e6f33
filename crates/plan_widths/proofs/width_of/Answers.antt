-- `width_of` meets its contract: each answer is that of `width_by`.
use native.Mathlib.Omega.{arith}
use Rattle.plan_widths.proofs.Ordered.{width_none, no_first, no_second, unsuited, suited}
use Rattle.plan_widths.proofs.width_of.Goals as goal

pub returns-in_default : goal.returns-in_default
returns-in_default c =
    let a = c.args in
    let x = c.tables in
    width_none a.plan.now a.widths.now a.n c.requires.1 a.operator c.requires.0 x.result
    x.ensures c.in_default.is

pub returns-then-n-t : goal.returns-then-n-t
returns-then-n-t c =
    let a = c.args in
    let x = c.tables in
    no_first a.plan.now a.widths.now a.n c.requires.1 a.operator c.requires.0 x.result
    x.ensures c.in-Some.t c.in-Some.u c.in-Some.is c.if-n-t.true

pub returns-then-n-u : goal.returns-then-n-u
returns-then-n-u c =
    let a = c.args in
    let x = c.tables in
    no_second a.plan.now a.widths.now a.n c.requires.1 a.operator c.requires.0 x.result
    x.ensures c.in-Some.t c.in-Some.u c.in-Some.is
    (λ h. omega (arith, c.if-n-t.false)) c.if-n-u.true

pub returns-then-suits : goal.returns-then-suits
returns-then-suits c =
    let a = c.args in
    let x = c.tables in
    let w = c.byte-w in
    let v = c.byte-v in
    let f = c.suits in
    suited a.plan.now a.widths.now a.n c.requires.1 a.operator c.requires.0 x.result x.ensures
    c.in-Some.t c.in-Some.u c.in-Some.is
    (λ h. omega (arith, c.if-n-t.false))
    (λ h. omega (arith, c.if-n-u.false))
    w.result v.result w.ensures.0 v.ensures.0 f.result f.ensures c.if-suits.true
    c.made_width.result c.made_width.ensures

pub returns-else-suits : goal.returns-else-suits
returns-else-suits c =
    let a = c.args in
    let x = c.tables in
    let w = c.byte-w in
    let v = c.byte-v in
    let f = c.suits in
    unsuited a.plan.now a.widths.now a.n c.requires.1 a.operator c.requires.0 x.result
    x.ensures c.in-Some.t c.in-Some.u c.in-Some.is
    (λ h. omega (arith, c.if-n-t.false))
    (λ h. omega (arith, c.if-n-u.false))
    w.result v.result w.ensures.0 v.ensures.0 f.result f.ensures c.if-suits.false
