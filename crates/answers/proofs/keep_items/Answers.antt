-- `keep_items` meets its contract: the last table's items, or none after a refusal.
use Rattle.answers.proofs.Keeping.{kept_none, kept_fits, kept_tables}
use Rattle.answers.proofs.keep_items.Goals as goal

pub copy_items-requires : goal.copy_items-requires
copy_items-requires c =
    kept_fits _ _ c.in-Ok.is _ _ c.requires.0 c.requires.1

pub returns-in-Ok : goal.returns-in-Ok
returns-in-Ok c =
    kept_tables _ _ c.in-Ok.is _ _ _ c.copy_items.ensures

pub returns-in_default : goal.returns-in_default
returns-in_default c =
    kept_none _ _ _ _ c.in_default.is
