-- `walk` meets its contract, operator by operator.
use mathlib.Core.Path.{refl}
use native.Mathlib.Omega.{arith}
use Rattle.std.proofs.lemmas.Result.{err_from_is_err_and}
use Rattle.cells.specs.Bytes.{Bytes}
use Rattle.running.proofs.Going.{going_start}
use Rattle.running.proofs.Leaving.{never_unread, read_sound, under_512, turned_walks, turned_on, turned_counts}
use Rattle.running.proofs.Leaving.{ready_kept, some, end_walks, located_ok, located_err}
use Rattle.running.proofs.walk.Goals as goal

pub loop-at-init : goal.loop-at-init
loop-at-init c =
    (going_start _ _ _ _ _ _ c.requires.accepted_plan.0 c.requires.accepted_plan.1, refl, refl, refl, refl, refl)

pub returns-in_default : goal.returns-in_default
returns-in_default c =
    absurd
    (never_unread _ _ _ _ _ _ _ _ _ _ c.loop-at.invariant.0 c.loop-at-test.true _ c.read.ensures
    c.in_default.is)

pub lay-turned-requires : goal.lay-turned-requires
lay-turned-requires c =
    let bytes : Bytes c.args.plan.now = λ i. (c.type_inv.plan i).fits in
    let g = c.loop-at.invariant.0 in record {
      listed_tables = (
        g.listed,
        read_sound _ _ _ _ _ _ _ _ _ _ g c.loop-at-test.true _ c.read.ensures bytes _ c.in-Some.is,
      );
      tables_bound = (
        under_512 _ _ _ _ _ _ _ _ _ _ g c.loop-at-test.true _ c.read.ensures bytes _ c.in-Some.is,
        g.fits,
        omega (arith, g.long, c.requires.accepted_plan.2),
        c.requires.accepted_plan.3,
      );
      in_bounds = (
        omega (arith, c.loop-at.invariant.2, c.requires.in_bounds.0),
        omega (arith, c.loop-at.invariant.3, c.requires.in_bounds.1),
        ready_kept _ _ _ _ _ _ c.requires.in_bounds.2 c.loop-at.invariant.4 c.loop-at.invariant.5,
      );
    }

pub returns-in_err-top : goal.returns-in_err-top
returns-in_err-top c =
    let bytes : Bytes c.args.plan.now = λ i. (c.type_inv.plan i).fits in
    let g = c.loop-at.invariant.0 in
    let p = err_from_is_err_and c.from_residual.result c.from_residual.ensures.1 in
    let w = located_err _ _ _ c.in_err-top.ensures in
    rw (p.1, p.2)
    (turned_walks _ _ _ _ _ _ _ _ _ _ g c.loop-at-test.true _ c.read.ensures bytes _ c.in-Some.is _ _ _ _ w.2
    (rw w.1 at c.lay-turned.ensures))

pub loop-at-smaller : goal.loop-at-smaller
loop-at-smaller c =
    let bytes : Bytes c.args.plan.now = λ i. (c.type_inv.plan i).fits in
    let g = c.loop-at.invariant.0 in
    let is = located_ok _ _ _ c.in_ok-top.ensures in
    let more =
    turned_counts _ _ _ _ _ _ _ _ _ _ g c.loop-at-test.true _ c.read.ensures bytes _
    c.in-Some.is _ _ _ (rw is at c.lay-turned.ensures) in
    omega (
      arith,
      more,
      under_512 _ _ _ _ _ _ _ _ _ _ g c.loop-at-test.true _ c.read.ensures bytes _ c.in-Some.is,
    )

pub loop-at-preserved : goal.loop-at-preserved
loop-at-preserved c =
    let bytes : Bytes c.args.plan.now = λ i. (c.type_inv.plan i).fits in
    let g = c.loop-at.invariant.0 in
    let is = located_ok _ _ _ c.in_ok-top.ensures in (
      turned_on _ _ _ _ _ _ _ _ _ _ g c.loop-at-test.true _ c.read.ensures bytes _
          c.in-Some.is _ _ _
          (omega (arith, g.long, c.requires.accepted_plan.2)) (rw is at c.lay-turned.ensures),
      omega arith,
      omega arith,
      omega arith,
      omega arith,
      omega arith,
    )

pub overflow_sub-top : goal.overflow_sub-top
overflow_sub-top c =
    omega (
      arith,
      some _ _ _ _ _ _ _ _ _ _ c.loop-at.invariant.0 (omega (arith, c.loop-at-test.false))
          c.requires.accepted_plan.0,
    )

pub stand-last-requires : goal.stand-last-requires
stand-last-requires c =
    let g = c.loop-at.invariant.0 in
    omega (
      arith,
      some _ _ _ _ _ _ _ _ _ _ g (omega (arith, c.loop-at-test.false)) c.requires.accepted_plan.0,
      g.listed.few,
      g.listed.long,
    )

pub returns : goal.returns
returns c =
    let ends = c.requires.accepted_plan.0 in
    rw c.stand-last.ensures
    (end_walks _ _ _ _ _ _ _ _ _ _ c.loop-at.invariant.0 (omega (arith, c.loop-at-test.false)) ends _
    (omega (arith, some _ _ _ _ _ _ _ _ _ _ c.loop-at.invariant.0 (omega (arith, c.loop-at-test.false)) ends))
    c.requires.accepted_plan.2)
