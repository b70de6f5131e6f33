-- `project` meets its contract.
use Rattle.cells.specs.Bytes.{bytes_of}
use Rattle.meaning.specs.Written.{operator_bytes}
use Rattle.pen.proofs.Putting.{pens_more}
use borrow.Author.Rules.{rules}
use Rattle.writing.proofs.project.Goals as goal

pub put_columns-requires : goal.put_columns-requires
unfolding bytes_of
put_columns-requires c =
    search rules

pub returns : goal.returns
unfolding operator_bytes
returns c =
    pens_more c.head-field.ensures c.put_columns.ensures
