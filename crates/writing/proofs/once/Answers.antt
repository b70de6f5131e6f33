-- `once` meets its contract.
use Rattle.meaning.specs.Written.{operator_bytes}
use Rattle.writing.proofs.once.Goals as goal

pub returns : goal.returns
unfolding operator_bytes
returns c =
    c.with_byte.ensures
