-- `evaluation_told` meets its contract: a refusal is told as it is.
use Rattle.std.proofs.Common.{arith}
use Rattle.std.proofs.lemmas.Grind.{common_steps}
use Rattle.lines.specs.Printed.{told_by}
use Rattle.evaluator.specs.Answers.{answered}
use Rattle.answers.proofs.Keeping.{refusal_told}
use Rattle.answers.proofs.evaluation_told.Goals as goal

pub returns-in_err-evaluated : goal.returns-in_err-evaluated
unfolding told_by answered
returns-in_err-evaluated c =
    rw c.in_err-evaluated.was (refusal_told _ _ c.from_residual.ensures.1)

pub returns : goal.returns
unfolding told_by answered
returns c =
    grind (arith, common_steps)
