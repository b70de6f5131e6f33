-- `read` meets its contract: what was found, and zeros behind it.
use mathlib.Core.Path.{refl}
use Rattle.reader.proofs.Concluding.{clears}
use Rattle.reader.proofs.read.Goals as goal

pub returns : goal.returns
returns c = clears _ _ _ refl c.bytes_of.ensures c.found-typed.ensures c.clear.ensures
