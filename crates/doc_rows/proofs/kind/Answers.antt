-- `kind` reads a row's kind: the byte after the level.
use Rattle.doc_rows.specs.Fields.{kind_at}
use Rattle.doc_rows.proofs.kind.Goals as goal

pub returns : goal.returns
unfolding kind_at
returns c =
    c.byte.ensures
