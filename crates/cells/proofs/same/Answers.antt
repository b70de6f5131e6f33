-- `cells::same` meets its contract: the code compares the bits.
use mir.Syntax.{w64}
use Rattle.cells.proofs.Bits.{bits_same}
use Rattle.cells.proofs.same.Goals as goal

pub returns : goal.returns
returns c =
    bits_same w64 _ _ c.ranges.a c.ranges.b
