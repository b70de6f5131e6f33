-- `skip` meets its contract: the operands of the record at an offset, one after another; the depth left falls.
use Rattle.query_walks.proofs.+skip.Given as goal

abbrev pub decreases-skip : goal.decreases-skip
decreases-skip l = l.depth
