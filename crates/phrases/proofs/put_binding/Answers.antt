-- `put_binding` meets its contract: the word, the variable, and what follows it.
use Rattle.pen.proofs.Putting.{pens_more}
use Rattle.phrases.proofs.put_binding.Goals as goal

pub returns : goal.returns
returns c =
    pens_more c.put_word-a.ensures (pens_more c.put_variable-b.ensures c.put_word.ensures)
