-- `cells::equal` meets its contract: the code compares the bits.
use mir.Syntax.{w32}
use Rattle.cells.proofs.Bits.{bits_same}
use Rattle.cells.proofs.equal.Goals as goal

pub returns : goal.returns
returns c =
    bits_same w32 _ _ c.ranges.x c.ranges.y
