-- `runner::run` meets its contract: what was worked out, with the cells past it cleared.
use Rattle.runner.proofs.Calling.{cleared}
use Rattle.runner.proofs.run.Goals as goal

pub returns : goal.returns
returns c =
    record {
      answer = c.attempt-ran.ensures.answer;
      cells = cleared _ _ _ _ _ c.attempt-ran.ensures
          c.filled_by.ensures c.clear.ensures;
    }
