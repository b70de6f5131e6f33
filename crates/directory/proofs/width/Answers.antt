-- `directory::width` meets its contract: of the tables that the operator names.
use native.Mathlib.Omega.{arith}
use Rattle.directory.proofs.Cases.{named_stand, made_none, made_of_lem}
use Rattle.directory.proofs.width.Goals as goal

pub returns-in_default : goal.returns-in_default
returns-in_default c = made_none _ _ _ c.tables-named.ensures c.in_default.is

pub wide-requires : goal.wide-requires
wide-requires c = (named_stand _ _ _ c.tables-named.ensures c.requires _ _ c.in-Some.is).0

pub wide-requires-2 : goal.wide-requires-2
wide-requires-2 c = (named_stand _ _ _ c.tables-named.ensures c.requires _ _ c.in-Some.is).1

pub made_width-requires : goal.made_width-requires
made_width-requires c =
    let h = named_stand _ _ _ c.tables-named.ensures c.requires _ _ c.in-Some.is in
    (omega (arith, h.2, c.wide.ensures), omega (arith, h.3, c.wide-2.ensures))

pub returns : goal.returns
returns c =
    made_of_lem _ _ _ c.tables-named.ensures _ _ _ _ _ c.in-Some.is c.wide.ensures c.wide-2.ensures c.made_width.ensures
