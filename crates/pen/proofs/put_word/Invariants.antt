-- `put_word` meets its contract. The invariant: the bytes so far are written.
use lib.ListN.{take}
use Rattle.pen.specs.Penned.{Pens}
use Rattle.pen.proofs.put_word.Given as goal

abbrev pub invariant-loop-byte : goal.invariant-loop-byte
invariant-loop-byte l = Pens l.at (take l.byte-index l.word) l.initial.bytes l.bytes l.end
