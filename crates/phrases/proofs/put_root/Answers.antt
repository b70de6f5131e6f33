-- `put_root` meets its contract: the word, the number, and the closing parenthesis.
use native.Mathlib.Omega.{arith}
use Rattle.grammar.specs.Written.{root_text}
use Rattle.pen.proofs.Digits.{decimal_short}
use Rattle.pen.proofs.Putting.{pens_more}
use Rattle.phrases.proofs.put_root.Goals as goal

pub put-requires : goal.put-requires
put-requires c =
    omega (arith, c.put_word-a.ensures.ends, c.put_number-b.ensures.ends, decimal_short c.args.k)

pub returns : goal.returns
unfolding root_text
returns c =
    pens_more c.put_word-a.ensures (pens_more c.put_number-b.ensures c.put.ensures)
