-- `put` meets its contract: past the end nothing changes.
use Rattle.pen.proofs.Putting.{pens_byte, pens_past}
use Rattle.pen.proofs.put.Goals as goal

pub returns-then-bytes-at : goal.returns-then-bytes-at
returns-then-bytes-at c =
    pens_past _ _ _ c.if-bytes-at.true

pub returns : goal.returns
returns c =
    pens_byte _ _ _
