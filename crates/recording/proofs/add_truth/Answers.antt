-- `add_truth` meets its contract: the record is its mark and 1 or 0.
use mathlib.Core.Path.{◌≡◌, refl}
use mathlib.Core.Bool.{Bool, true, false, cond}
use mir.Val.{bool_byte}
use Rattle.cells.specs.Bytes.{bytes_of}
use Rattle.grammar.specs.Records.{record_qb}
use Rattle.recording.proofs.add_truth.Goals as goal

byte_of : (b : Bool) → bool_byte b ≡ cond b 1 0
byte_of true = refl
byte_of false = refl

pub returns : goal.returns
unfolding record_qb bytes_of
returns c = rw (c.from.ensures, byte_of c.args.truth) at c.add.ensures
