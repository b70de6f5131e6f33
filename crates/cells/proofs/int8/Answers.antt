-- `int8` meets its contract.
use mathlib.Core.Path.{◌∙◌, ap}
use mir.Syntax.{w64}
use Rattle.cells.specs.Bytes.{signed, int8}
use Rattle.cells.proofs.Bits.{read_signed}
use Rattle.cells.proofs.int8.Goals as goal

pub returns : goal.returns
unfolding int8
returns c =
    read_signed w64 _ c.word8.ensures.1 c.cast_signed.ensures ∙ ap (signed _) c.word8.ensures.0
