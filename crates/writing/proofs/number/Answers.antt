-- `number` meets its contract.
use Rattle.cells.specs.Bytes.{bytes_of}
use Rattle.meaning.specs.Written.{operator_bytes}
use Rattle.pen.proofs.Putting.{pens_more}
use borrow.Author.Rules.{rules}
use Rattle.writing.proofs.number.Goals as goal

pub put-list-requires : goal.put-list-requires
unfolding bytes_of
put-list-requires c =
    search rules

pub put_keys-requires : goal.put_keys-requires
unfolding bytes_of
put_keys-requires c =
    search rules

pub returns : goal.returns
unfolding operator_bytes
returns c =
    pens_more c.head-field.ensures (pens_more c.put-list.ensures c.put_keys.ensures)
