-- `look` meets its contract: a record that is read stands within the plan.
use mathlib.Core.Bool.{not}
use mathlib.Core.Path.{ap}
use Rattle.cells.specs.Bytes.{Bytes}
use Rattle.plan_records.proofs.Sized.{there}
use Rattle.plan_records.proofs.Fields.{operator_ends}
use Rattle.plans.proofs.Ending.{found, found_stands}
use Rattle.shown_records.specs.Records.{Narrow}
use borrow.Author.Rules.{rules}
use Rattle.shown_records.proofs.look.Goals as goal

pub width_of-width-requires : goal.width_of-width-requires
width_of-width-requires c =
    (found_stands c.args.plan.now c.args.at c.read.result c.read.ensures _ c.in-Some.is, c.requires)

pub returns : goal.returns
returns c =
    let bs = c.args.plan.now in
    let bytes : Bytes bs = λ i. (c.type_inv.plan i).fits in
    let p = found bs c.args.at c.read.result c.read.ensures _ c.in-Some.is in
    let e = operator_ends bs bytes c.args.at _ p in
    let narrow : Narrow c.filter.result = search rules in
    (there bs c.args.at 2 c.fits.result c.fits.ensures (ap not c.if-not-fits.false), e.within, narrow)
