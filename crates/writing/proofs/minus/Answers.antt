-- `minus` meets its contract.
use Rattle.meaning.specs.Written.{operator_bytes}
use Rattle.writing.proofs.minus.Goals as goal

pub returns : goal.returns
unfolding operator_bytes
returns c =
    c.with_table.ensures
