-- `join` meets its contract.
use Rattle.cells.specs.Bytes.{bytes_of}
use Rattle.meaning.specs.Written.{operator_bytes}
use Rattle.pen.proofs.Putting.{pens_more}
use borrow.Author.Rules.{rules}
use Rattle.writing.proofs.join.Goals as goal

pub put-table-requires : goal.put-table-requires
unfolding bytes_of
put-table-requires c =
    search rules

pub put2-last-requires : goal.put2-last-requires
unfolding bytes_of
put2-last-requires c =
    search rules

pub put-requires : goal.put-requires
unfolding bytes_of
put-requires c =
    search rules

pub returns : goal.returns
unfolding operator_bytes
returns c =
    let middle = pens_more c.put-table.ensures c.put2-last.ensures in
    pens_more (pens_more c.head-field.ensures middle) c.put.ensures
