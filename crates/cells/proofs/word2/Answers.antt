-- `cells::word2` meets its contract: the first half weighs 256 ^ 1.
use mathlib.Core.Path.{sym, ◌∙◌}
use native.Mathlib.Omega.{arith}
use Rattle.cells.proofs.Bytes.{word_one, word_halves}
use Rattle.cells.proofs.word2.Goals as goal

pub returns : goal.returns
returns c = (
  word_halves _ _ 1 (c.byte-high.ensures.0 ∙ sym (word_one _ _)) (c.byte-low.ensures.0 ∙ sym (word_one _ _)),
  omega arith,
)
