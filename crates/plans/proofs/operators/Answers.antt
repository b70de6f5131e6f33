-- `operators` meets its contract. The loop's invariant: what is left of the plan, after the operators done, gives what
-- the whole gives, and the first n lent bytes are the widths of their tables. The measure is what is left of the bytes.
use native.Mathlib.Omega.{arith}
use Rattle.cells.specs.Bytes.{Bytes}
use Rattle.plan_records.proofs.Fields.{operator_ends}
use Rattle.plans.proofs.Ending.{checking_start, checking_excess, checking_unread, checking_unfit, checking_small}
use Rattle.plans.proofs.Ending.{checking_room, checking_place}
use Rattle.plans.proofs.Ending.{checking_on, checking_none, checking_three, checking_other, unread, found}
use Rattle.plans.proofs.Ending.{found_stands}
use Rattle.plans.proofs.operators.Goals as goal

pub loop-at-init : goal.loop-at-init
loop-at-init c =
    checking_start c.args.plan.now c.args.widths.now c.requires

pub returns-then-full : goal.returns-then-full
returns-then-full c =
    rw c.unsound.ensures
    (checking_excess c.loop-at.invariant c.loop-at-test.true c.if-full.true)

pub returns-in_default : goal.returns-in_default
returns-in_default c =
    let a = c.args in
    let r = c.read in
    rw c.unsound-in_default.ensures
    (checking_unread c.loop-at.invariant c.loop-at-test.true
    c.if-full.false
    (unread a.plan.now c.loop-at.at r.result r.ensures c.in_default.is))

pub width_of-requires : goal.width_of-requires
width_of-requires c =
    let a = c.args in
    let r = c.read in (
      found_stands a.plan.now c.loop-at.at r.result r.ensures c.in-Some.found c.in-Some.is,
      checking_room c.loop-at.invariant,
    )

pub returns-in_default-width_of : goal.returns-in_default-width_of
returns-in_default-width_of c =
    let a = c.args in
    let r = c.read in
    let x = c.width_of in
    let p = found a.plan.now c.loop-at.at r.result r.ensures c.in-Some.found c.in-Some.is in
    rw c.unsound-in_default-width_of.ensures
    (checking_unfit c.loop-at.invariant
    c.loop-at-test.true
    c.if-full.false
    _ _ p x.result x.ensures c.in_default-width_of.is)

pub overflow_cast-widths : goal.overflow_cast-widths
overflow_cast-widths c =
    let a = c.args in
    let r = c.read in
    let x = c.width_of in
    let bytes : Bytes a.plan.now = λ i. omega (arith, c.type_inv.plan i) in
    let p = found a.plan.now c.loop-at.at r.result r.ensures c.in-Some.found c.in-Some.is in
    omega (
      arith,
      checking_small c.loop-at.invariant
          c.loop-at-test.true
          c.if-full.false
          _ _ p x.result x.ensures bytes c.in-Some-width_of.w c.in-Some-width_of.is,
    )

pub bounds-widths-n : goal.bounds-widths-n
bounds-widths-n c =
    checking_place c.loop-at.invariant
    c.if-full.false

pub overflow_add-n : goal.overflow_add-n
overflow_add-n c =
    let p = checking_place c.loop-at.invariant c.if-full.false in
    omega (arith, c.loop-at.invariant.long)

pub loop-at-smaller : goal.loop-at-smaller
loop-at-smaller c =
    let a = c.args in
    let r = c.read in
    let bytes : Bytes a.plan.now = λ i. omega (arith, c.type_inv.plan i) in
    let p = found a.plan.now c.loop-at.at r.result r.ensures c.in-Some.found c.in-Some.is in
    let e = operator_ends a.plan.now bytes c.loop-at.at _ p in
    omega (arith, e.after, e.within)

pub loop-at-preserved : goal.loop-at-preserved
loop-at-preserved c =
    let a = c.args in
    let r = c.read in
    let x = c.width_of in
    let bytes : Bytes a.plan.now = λ i. omega (arith, c.type_inv.plan i) in
    let p = found a.plan.now c.loop-at.at r.result r.ensures c.in-Some.found c.in-Some.is in
    checking_on c.loop-at.invariant
    c.loop-at-test.true
    c.if-full.false
    _ _ p x.result x.ensures bytes c.in-Some-width_of.w c.in-Some-width_of.is

pub returns-then-n-eq0 : goal.returns-then-n-eq0
returns-then-n-eq0 c =
    rw c.unsound-then-n-eq0.ensures
    (checking_none c.loop-at.invariant c.loop-at-test.false c.if-n-eq0.true)

pub bounds-widths-n-2 : goal.bounds-widths-n-2
bounds-widths-n-2 c =
    omega (arith, c.if-n-eq0.false, checking_room c.loop-at.invariant)

pub returns-then-widths-n-eq3 : goal.returns-then-widths-n-eq3
returns-then-widths-n-eq3 c =
    checking_three c.loop-at.invariant
    c.loop-at-test.false c.if-n-eq0.false c.if-widths-n-eq3.true

pub returns-else-widths-n-eq3 : goal.returns-else-widths-n-eq3
returns-else-widths-n-eq3 c =
    rw c.unsound-else-widths-n-eq3.ensures
    (checking_other c.loop-at.invariant
    c.loop-at-test.false c.if-n-eq0.false c.if-widths-n-eq3.false)
