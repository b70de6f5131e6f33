-- `free` meets its contract: the free variables of the operands, put together by the record; the depth left falls.
use Rattle.query_walks.proofs.+free.Given as goal

abbrev pub decreases-free : goal.decreases-free
decreases-free l = l.depth
