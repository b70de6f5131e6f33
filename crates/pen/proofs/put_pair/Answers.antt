-- `put_pair` meets its contract.
use Rattle.pen.proofs.Putting.{pens_more}
use Rattle.pen.proofs.put_pair.Goals as goal

pub returns : goal.returns
returns c =
    pens_more c.put-second.ensures c.put.ensures
