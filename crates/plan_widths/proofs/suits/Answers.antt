-- `suits` meets its contract, operator by operator.
use Rattle.plan_widths.proofs.Suiting.{stands_project, stands_number, suits_project, suits_number}
use Rattle.plan_widths.proofs.suits.Goals as goal

pub below-requires : goal.below-requires
below-requires c =
    stands_project c.args.plan.now c.args.operator c.requires.0
    c.in-Project.t c.in-Project.n c.in-Project.from c.in-Project.is

pub below-requires-in-Number : goal.below-requires-in-Number
below-requires-in-Number c =
    stands_number c.args.plan.now c.args.operator c.requires.0
    c.in-Number.t c.in-Number.p c.in-Number.n c.in-Number.from c.in-Number.is

pub returns-in-Project : goal.returns-in-Project
returns-in-Project c =
    suits_project c.args.plan.now c.args.operator c.requires.0 c.args.w c.args.v
    c.in-Project.t c.in-Project.n c.in-Project.from c.in-Project.is c.below.result c.below.ensures

pub returns-in-Number : goal.returns-in-Number
returns-in-Number c =
    suits_number c.args.plan.now c.args.operator c.requires.0 c.args.w c.args.v
    c.in-Number.t c.in-Number.p c.in-Number.n c.in-Number.from c.in-Number.is
    c.below-in-Number.result c.below-in-Number.ensures
