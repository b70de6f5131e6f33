-- `with_byte` meets its contract.
use Rattle.cells.specs.Bytes.{bytes_of}
use Rattle.pen.proofs.Putting.{pens_more}
use borrow.Author.Rules.{rules}
use Rattle.writing.proofs.with_byte.Goals as goal

pub put-requires : goal.put-requires
unfolding bytes_of
put-requires c =
    search rules

pub returns : goal.returns
returns c =
    pens_more c.head-field.ensures c.put.ensures
