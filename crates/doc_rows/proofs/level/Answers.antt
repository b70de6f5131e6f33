-- `level` reads a row's level: the byte after the size.
use Rattle.doc_rows.specs.Fields.{level_at}
use Rattle.doc_rows.proofs.level.Goals as goal

pub returns : goal.returns
unfolding level_at
returns c =
    c.byte.ensures
