-- `put2` meets its contract: the higher byte, then the lower.
use Rattle.cells.specs.Bytes.{bytes_of}
use Rattle.pen.proofs.Putting.{pens_more}
use Rattle.pen.proofs.put2.Goals as goal

pub returns : goal.returns
unfolding bytes_of
returns c =
    pens_more c.put-low.ensures c.put.ensures
