-- `size` reads a row's size: the two bytes after the mark.
use Rattle.doc_rows.specs.Fields.{size_at}
use Rattle.doc_rows.proofs.size.Goals as goal

pub returns : goal.returns
unfolding size_at
returns c =
    c.word2.ensures
