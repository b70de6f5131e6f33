-- `put_word` meets its contract. The invariant: the bytes so far are written.
use mathlib.Core.Path.{refl}
use native.Mathlib.Omega.{arith}
use lib.Seq.{length-take-le}
use Rattle.pen.proofs.Putting.{pens_none, word_more, word_whole}
use Rattle.pen.proofs.put_word.Goals as goal

pub loop-byte-init : goal.loop-byte-init
loop-byte-init c =
    pens_none _ _

pub put-end-requires : goal.put-end-requires
put-end-requires c =
    let passed = length-take-le c.loop-byte.byte-index c.args.word.now (omega arith) in
    omega (arith, passed, c.loop-byte.invariant.ends)

pub loop-byte-preserved : goal.loop-byte-preserved
loop-byte-preserved c =
    word_more _ c.loop-byte.byte-index (omega arith) refl c.loop-byte.invariant c.put-end.ensures

pub returns : goal.returns
returns c =
    word_whole _ c.loop-byte.byte-index (omega arith) c.loop-byte.invariant
