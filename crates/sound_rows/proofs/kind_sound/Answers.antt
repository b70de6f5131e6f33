-- `kind_sound` goes by the kind: an element, a text, or neither.
use mathlib.Core.Path.{◌∙◌, ap}
use mir.Facts.{to_z-of_z}
use Rattle.meaning.specs.Catalogue.{is_name}
use Rattle.sound_rows.proofs.OwnFields.{kind_element, kind_text, kind_other}
use Rattle.sound_rows.proofs.kind_sound.Goals as goal

pub returns-in-1 : goal.returns-in-1
returns-in-1 c =
    c.is_name.ensures ∙ ap is_name (to_z-of_z c.ranges.prop)
    ∙ kind_element _ _ _ _ c.in-1.is

pub returns-in-3 : goal.returns-in-3
returns-in-3 c =
    c.text_sound.ensures ∙ kind_text _ _ _ _ c.in-3.is

pub returns-in_default : goal.returns-in_default
returns-in_default c =
    kind_other _ _ _ _ c.in_default.in_default-own.rest.0.1 c.in_default.in_default-own.rest.1
