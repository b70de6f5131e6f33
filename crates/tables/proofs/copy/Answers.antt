-- `tables::copy` meets its contract.
use mathlib.Core.Path.{◌∙◌}
use native.Mathlib.Omega.{arith}
use Rattle.tables.proofs.Copied.{pasted_laid}
use Rattle.tables.proofs.copy.Goals as goal

pub returns : goal.returns
returns c =
    c.copy_within.ensures.after ∙ pasted_laid _ _ _ _ _ (omega arith) (omega arith)
