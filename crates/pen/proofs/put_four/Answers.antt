-- `put_four` meets its contract.
use Rattle.pen.proofs.Putting.{pens_more}
use Rattle.pen.proofs.put_four.Goals as goal

pub returns : goal.returns
returns c =
    pens_more c.put_pair-third.ensures c.put_pair.ensures
