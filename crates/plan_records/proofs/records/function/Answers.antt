-- `function` meets its contract: cut, a bad field, or its fields as they stand.
use mathlib.Core.Bool.{not}
use mathlib.Core.Path.{ap}
use Prim.Native.Nat.{◌+◌, ◌≤◌}
use native.Mathlib.Omega.{arith}
use borrow.Author.Rules.{rules}
use lib.ListN.{length}
use Rattle.plan_records.proofs.Sized.{there}
use Rattle.plan_records.proofs.Arms.{function_short, function_value, function_apply}
use Rattle.plan_records.proofs.records.function.Goals as goal

pub returns-then-not-fits : goal.returns-then-not-fits
returns-then-not-fits c =
    let a = c.args in
    let f = c.fits in
    function_short a.plan.now a.at f.result f.ensures (ap not c.if-not-fits.true)

pub overflow_add-at : goal.overflow_add-at
overflow_add-at c =
    let room : c.args.at + 5 ≤ length c.args.plan.now = let a = c.args in
    let f = c.fits in
    there a.plan.now a.at 5 f.result f.ensures (ap not c.if-not-fits.false) in
    omega (arith, room)

pub byte-number-requires : goal.byte-number-requires
byte-number-requires c =
    let room : c.args.at + 5 ≤ length c.args.plan.now = let a = c.args in
    let f = c.fits in
    there a.plan.now a.at 5 f.result f.ensures (ap not c.if-not-fits.false) in
    omega (arith, room)

pub returns-in-7 : goal.returns-in-7
returns-in-7 c =
    let a = c.args in
    let n = c.byte-number in
    function_value a.plan.now a.at n.result n.ensures.0 c.value.result
    c.in-7.is c.value.ensures

pub returns-in_default : goal.returns-in_default
returns-in_default c =
    let a = c.args in
    let n = c.byte-number in
    function_apply a.plan.now a.at n.result n.ensures.0 c.apply.result
    (search rules) c.apply.ensures
