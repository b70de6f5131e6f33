-- `bits_of` meets its contract.
use mathlib.Core.Path.{◌∙◌, ap}
use mir.Facts.{to_z-of_z}
use Rattle.cells.specs.Bytes.{bits8}
use Rattle.cells.proofs.Bits.{unsigned_is}
use Rattle.cells.proofs.bits_of.Goals as goal

pub returns : goal.returns
returns c =
    c.cast_unsigned.ensures ∙ unsigned_is _ ∙ ap bits8 (to_z-of_z c.ranges.cell)
