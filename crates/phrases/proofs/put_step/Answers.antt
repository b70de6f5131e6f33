-- `put_step` meets its contract: the slash, the axis, the colons, and the test.
use Rattle.grammar.specs.Written.{step_text}
use Rattle.pen.proofs.Putting.{pens_as, pens_more}
use Rattle.phrases.proofs.put_step.Goals as goal

pub returns : goal.returns
unfolding step_text
returns c =
    pens_more c.put-a.ensures
    (pens_more (pens_as c.axis_name.ensures.says c.put_word-b.ensures)
    (pens_more c.put_word-c.ensures c.put_test.ensures))
