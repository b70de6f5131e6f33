-- `put_name` meets its contract: the letter, and the number.
use Rattle.grammar.specs.Written.{test_text}
use Rattle.pen.proofs.Putting.{pens_more}
use Rattle.phrases.proofs.put_name.Goals as goal

pub returns : goal.returns
unfolding test_text
returns c =
    pens_more c.put-a.ensures c.put_number.ensures
