-- `int4` meets its contract.
use mathlib.Core.Path.{◌∙◌, ap}
use mir.Syntax.{w32}
use Rattle.cells.specs.Bytes.{signed, int4}
use Rattle.cells.proofs.Bits.{read_signed}
use Rattle.cells.proofs.int4.Goals as goal

pub returns : goal.returns
unfolding int4
returns c =
    read_signed w32 _ c.word4.ensures.1 c.cast_signed.ensures ∙ ap (signed _) c.word4.ensures.0
