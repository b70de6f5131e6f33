-- `plan_told` meets its contract: a refusal is told as it is.
use Rattle.std.proofs.Common.{arith}
use Rattle.std.proofs.lemmas.Grind.{common_steps}
use Rattle.lines.specs.Printed.{told_by}
use Rattle.translator.specs.Answers.{answered}
use Rattle.answers.proofs.Keeping.{refusal_told}
use Rattle.answers.proofs.plan_told.Goals as goal

pub returns-in_err-translated : goal.returns-in_err-translated
unfolding told_by answered
returns-in_err-translated c =
    rw c.in_err-translated.was (refusal_told _ _ c.from_residual.ensures.1)

pub returns : goal.returns
unfolding told_by answered
returns c =
    grind (arith, common_steps)
