-- `reach` meets its contract: marks of the items, then the step over them.
use mathlib.Core.Path.{refl}
use Rattle.meaning.specs.Catalogue.{catalogue_of}
use Rattle.stack.proofs.Exits.{err_is}
use Rattle.stack_records.proofs.Reaching.{reaches_not, reaches_all}
use Rattle.stack_records.proofs.reach.Goals as goal

pub returns-in_err-mark : goal.returns-in_err-mark
unfolding catalogue_of
returns-in_err-mark c =
    rw (err_is _ _ c.from_residual.ensures.1)
    (reaches_not _ _ _ _ _ (c.in_err-mark.ensures (catalogue_of c.args.doc.now c.args.rows) refl))

pub returns : goal.returns
unfolding catalogue_of
returns c =
    let m = c.in_ok-mark.ensures (catalogue_of c.args.doc.now c.args.rows) refl in
    reaches_all _ _ _ _ _ _ _ _ c.step.ensures _ m.1 m.2
