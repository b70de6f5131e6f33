-- `sizes_exact` meets its contract. The invariant of its loop: the sizes before r are exact, so that those from r on
-- give what the whole gives.
use Prim.Native.Nat.{◌-◌}
use native.Mathlib.Omega.{arith}
use mathlib.Core.Path.{◌≡◌, sym, ap, ◌∙◌}
use Rattle.meaning.specs.Calls.{catalogue_answer}
use Rattle.meaning.specs.Catalogue.{catalogue_of, sizes_exact}
use Rattle.catalogue.specs.Answers.{answered}
use Rattle.catalogue.proofs.Turns.{exact_end, exact_bad, exact_on}
use Rattle.catalogue.proofs.sizes_exact.Goals as goal

pub loop-r-init : goal.loop-r-init
loop-r-init c =
    let a = c.args in
    let e : a.rows - 0 ≡ a.rows = omega arith in
    ap (sizes_exact (catalogue_of a.doc.now a.rows) 0) e

pub size-requires : goal.size-requires
size-requires c =
    omega arith

pub deeper-requires : goal.deeper-requires
deeper-requires c =
    omega arith

pub returns-then-size-deeper : goal.returns-then-size-deeper
unfolding answered catalogue_answer
returns-then-size-deeper c =
    let size = c.size.ensures.0 in
    let bad = exact_bad c.args.doc.now c.args.rows c.loop-r.r size c.deeper.ensures in
    rw c.unsound.ensures
    (ap catalogue_answer (sym (bad (omega arith) (omega arith)) ∙ c.loop-r.invariant))

pub loop-r-preserved : goal.loop-r-preserved
loop-r-preserved c =
    let size = c.size.ensures.0 in
    let on = exact_on c.args.doc.now c.args.rows c.loop-r.r size c.deeper.ensures in
    sym (on (omega arith) (omega arith)) ∙ c.loop-r.invariant

pub returns : goal.returns
unfolding answered catalogue_answer catalogue_of
returns c =
    ap catalogue_answer (sym (exact_end c.args.doc.now c.args.rows c.loop-r.r (omega arith)) ∙ c.loop-r.invariant)
