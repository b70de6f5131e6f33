-- `cells::word4` meets its contract: the first half weighs 256 ^ 2.
use native.Mathlib.Omega.{arith}
use Rattle.cells.proofs.Bytes.{word_halves}
use Rattle.cells.proofs.word4.Goals as goal

pub returns : goal.returns
returns c = (
  word_halves _ _ 2 c.word2-high.ensures.0 c.word2-low.ensures.0,
  omega arith,
)
