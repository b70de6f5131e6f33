-- `column` meets its contract: cut, or its fields as they stand.
use mathlib.Core.Bool.{not}
use mathlib.Core.Path.{ap}
use Prim.Native.Nat.{◌+◌, ◌≤◌}
use native.Mathlib.Omega.{arith}
use lib.ListN.{length}
use Rattle.cells.proofs.Cut.{fits_cut, fits_there}
use Rattle.laws.specs.Attempt.{provided}
use Rattle.plan_records.specs.Arms as Arms
use Rattle.plan_records.proofs.Sized.{there}
use Rattle.plan_records.proofs.records.column.Goals as goal

pub returns-then-not-fits : goal.returns-then-not-fits
unfolding Arms.column provided
returns-then-not-fits c =
    let a = c.args in
    let f = c.fits in
    rw (fits_cut f.result a.plan.now a.at 5 f.ensures (ap not c.if-not-fits.true))

pub overflow_add-at : goal.overflow_add-at
overflow_add-at c =
    let room : c.args.at + 5 ≤ length c.args.plan.now = let a = c.args in
    let f = c.fits in
    there a.plan.now a.at 5 f.result f.ensures (ap not c.if-not-fits.false) in
    omega (arith, room)

pub word2-requires : goal.word2-requires
word2-requires c =
    let room : c.args.at + 5 ≤ length c.args.plan.now = let a = c.args in
    let f = c.fits in
    there a.plan.now a.at 5 f.result f.ensures (ap not c.if-not-fits.false) in
    omega (arith, room)

pub overflow_add-at-2 : goal.overflow_add-at-2
overflow_add-at-2 c =
    let room : c.args.at + 5 ≤ length c.args.plan.now = let a = c.args in
    let f = c.fits in
    there a.plan.now a.at 5 f.result f.ensures (ap not c.if-not-fits.false) in
    omega (arith, room)

pub byte-requires : goal.byte-requires
byte-requires c =
    let room : c.args.at + 5 ≤ length c.args.plan.now = let a = c.args in
    let f = c.fits in
    there a.plan.now a.at 5 f.result f.ensures (ap not c.if-not-fits.false) in
    omega (arith, room)

pub returns : goal.returns
unfolding Arms.column provided
returns c =
    let a = c.args in
    let f = c.fits in
    let there = fits_there f.result a.plan.now a.at 5 f.ensures (ap not c.if-not-fits.false) in
    rw (there, ← c.word2.ensures.0, ← c.byte.ensures.0)
