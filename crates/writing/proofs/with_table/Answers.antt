-- `with_table` meets its contract.
use Rattle.cells.specs.Bytes.{bytes_of}
use Rattle.pen.proofs.Putting.{pens_more}
use borrow.Author.Rules.{rules}
use Rattle.writing.proofs.with_table.Goals as goal

pub put2-requires : goal.put2-requires
unfolding bytes_of
put2-requires c =
    search rules

pub returns : goal.returns
returns c =
    pens_more c.head-table.ensures c.put2.ensures
