-- `attach` meets its contract.
use mathlib.Core.Path.{ap}
use mir.Facts.{to_z-of_z}
use lib.IntN.{ℤ}
use Rattle.cells.specs.Bytes.{bytes_of, bits8}
use Rattle.meaning.specs.Written.{operator_bytes}
use Rattle.pen.proofs.Putting.{pens_more, pens_as}
use borrow.Author.Rules.{rules}
use Rattle.writing.proofs.attach.Goals as goal

pub put8-requires : goal.put8-requires
unfolding bytes_of
put8-requires c =
    search rules

pub returns : goal.returns
unfolding operator_bytes
returns c =
    let cell = to_z-of_z c.ranges.cell in
    pens_more c.head-field.ensures (pens_as (ap (λ (z : ℤ). bytes_of 8 (bits8 z)) cell) c.put8.ensures)
