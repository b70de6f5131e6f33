-- `put_tail` meets its contract: where nothing stands after the operands, nothing is written.
use native.Mathlib.Omega.{arith}
use Rattle.pen.proofs.Putting.{pens_none}
use Rattle.query_records.specs.Decoded.{record_of}
use Rattle.phrases.specs.Phrases.{tail_of}
use Rattle.phrases.proofs.put_tail.Goals as goal

pub returns-in_default : goal.returns-in_default
unfolding tail_of record_of
returns-in_default c = grind (arith, pens_none)
