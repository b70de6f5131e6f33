-- `put8` meets its contract: what is past the last four bytes of its bits, then those.
use mathlib.Core.Path.{sym, ap, ◌∙◌}
use mir.Facts.{to_z-of_z}
use Rattle.cells.specs.Bytes.{bytes_of, bits8}
use Rattle.pen.proofs.Putting.{pens_more, pens_as, bytes_of_join}
use borrow.Author.Rules.{rules}
use Rattle.pen.proofs.put8.Goals as goal

pub put4-requires : goal.put4-requires
unfolding bytes_of
put4-requires c =
    search rules

pub returns : goal.returns
returns c =
    let cell = to_z-of_z c.ranges.cell in
    pens_as (sym (bytes_of_join 4 4 _) ∙ ap (bytes_of 8) (c.bits_of-number.ensures ∙ ap bits8 cell))
    (pens_more c.put4-low.ensures c.put4.ensures)
