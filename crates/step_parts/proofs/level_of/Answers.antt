-- `step_parts::level_of` meets its contract: levels are those of a sound catalogue, so they end at 63.
use native.Mathlib.Omega.{arith}
use mathlib.Core.Path.{◌≡◌, sym, ◌∙◌}
use Rattle.meaning.specs.Catalogue.{catalogue_of}
use Rattle.doc_rows.proofs.FieldLaws.{level_field}
use Rattle.step_parts.proofs.level_of.Goals as goal

pub level-requires : goal.level-requires
level-requires c =
    omega arith

pub returns : goal.returns
returns c =
    let level : c.level.result ≡ (catalogue_of c.args.doc.now c.args.rows).level c.args.v.0 = let args = c.args in
    c.level.ensures.0 ∙ sym (level_field args.doc.now args.rows args.v.0) in
    (level, omega (arith, level, c.requires.0.nested.shallow c.args.v.0 c.requires.1))
