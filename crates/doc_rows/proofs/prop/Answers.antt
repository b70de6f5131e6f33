-- `prop` reads a row's prop: four bytes, signed.
use mathlib.Core.Path.{◌∙◌}
use mir.Facts.{to_z-of_z}
use mir.Syntax.{w32}
use Rattle.doc_rows.specs.Fields.{prop_at}
use Rattle.doc_rows.proofs.prop.Goals as goal

pub returns : goal.returns
unfolding prop_at
returns c =
    to_z-of_z {w = w32} (record { sfits = c.int4.type_inv }) ∙ c.int4.ensures
