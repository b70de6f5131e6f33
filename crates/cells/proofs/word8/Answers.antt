-- `cells::word8` meets its contract: the first half weighs 256 ^ 4.
use native.Mathlib.Omega.{arith}
use Rattle.cells.proofs.Bytes.{word_halves}
use Rattle.cells.proofs.word8.Goals as goal

pub returns : goal.returns
returns c = (
  word_halves _ _ 4 c.word4-high.ensures.0 c.word4-low.ensures.0,
  omega arith,
)
