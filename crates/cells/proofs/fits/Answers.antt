-- `cells::fits` meets its contract: within, what is left is compared; past the end, nothing fits.
use mathlib.Core.Path.{◌∙◌}
use borrow.Author.Tests.{lt-leb}
use Rattle.cells.proofs.Bytes.{fits_within, fits_past}
use Rattle.cells.proofs.fits.Goals as goal

pub returns-then-at-s : goal.returns-then-at-s
returns-then-at-s c =
    fits_within _ _ _ c.if-at-s.true

pub returns-else-at-s : goal.returns-else-at-s
returns-else-at-s c =
    lt-leb _ _ c.if-at-s.false ∙ fits_past _ _ _ c.if-at-s.false
