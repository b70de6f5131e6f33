-- `concluded` meets its contract: what stands on the stack, or the refusal of the work.
use Rattle.stack.proofs.Exits.{err_is}
use Rattle.evaluator.specs.Answers.{concluding}
use Rattle.evaluator.proofs.concluded.Goals as goal

pub returns-in_err-stood : goal.returns-in_err-stood
unfolding concluding
returns-in_err-stood c = rw (c.in_err-stood.was, err_is _ _ c.from_residual.ensures.1)

pub returns : goal.returns
unfolding concluding
returns c = rw c.in_ok-stood.was
