-- `put4` meets its contract: what is past the last two bytes, then those.
use mathlib.Core.Path.{sym}
use Rattle.cells.specs.Bytes.{bytes_of}
use Rattle.pen.proofs.Putting.{pens_more, pens_as, bytes_of_join}
use borrow.Author.Rules.{rules}
use Rattle.pen.proofs.put4.Goals as goal

pub put2-requires : goal.put2-requires
unfolding bytes_of
put2-requires c =
    search rules

pub returns : goal.returns
returns c =
    pens_as (sym (bytes_of_join 2 2 _)) (pens_more c.put2-low.ensures c.put2.ensures)
