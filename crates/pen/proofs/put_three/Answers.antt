-- `put_three` meets its contract.
use Rattle.pen.proofs.Putting.{pens_more}
use Rattle.pen.proofs.put_three.Goals as goal

pub returns : goal.returns
returns c =
    pens_more c.put-second.ensures c.put_pair.ensures
