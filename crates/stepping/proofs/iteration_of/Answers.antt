-- `stepping::iteration_of` meets its contract: the cell is read back from its bits.
use mathlib.Core.Path.{◌∙◌}
use mir.Syntax.{w64}
use Rattle.cells.proofs.Bits.{read_back}
use Rattle.stepping.proofs.iteration_of.Goals as goal

pub returns : goal.returns
returns c =
    read_back w64 c.cell_at.type_inv ∙ c.cell_at.ensures
