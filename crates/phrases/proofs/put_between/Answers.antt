-- `put_between` meets its contract: the text of the record.
use Rattle.pen.proofs.Putting.{pens_as}
use Rattle.phrases.proofs.put_between.Goals as goal

pub returns : goal.returns
returns c = pens_as c.between.ensures.says c.put_word.ensures
