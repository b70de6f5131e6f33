-- `apply` meets its contract.
use Rattle.cells.specs.Bytes.{bytes_of}
use Rattle.meaning.specs.Written.{operator_bytes}
use Rattle.pen.proofs.Putting.{pens_more, pens_first}
use borrow.Author.Rules.{rules}
use Rattle.writing.proofs.apply.Goals as goal

pub put_three-requires : goal.put_three-requires
unfolding bytes_of
put_three-requires c =
    search rules

pub returns : goal.returns
unfolding operator_bytes
returns c =
    pens_more c.head-field.ensures (pens_first c.from.ensures c.put_three.ensures)
