-- `own_row` tests the level, then what the kind asks of the other fields.
use native.Mathlib.Omega.{arith}
use mathlib.Core.Logic.{⊎_elim}
use mathlib.Core.Path.{◌≡◌, ◌∙◌}
use Rattle.meaning.specs.Catalogue.{catalogue_of, own_sound}
use mir.Facts.{to_z-of_z}
use mir.Syntax.{w32}
use Rattle.sound_rows.specs.Answers.{level_of}
use Rattle.sound_rows.proofs.Tests.{own_read, own_deep, own_far, row_none, row_found}
use Rattle.sound_rows.proofs.own_row.Goals as goal

pub returns-then-most-l : goal.returns-then-most-l
unfolding level_of
returns-then-most-l c =
    let a = c.args in
    row_none _
    (⊎_elim (λ h. own_deep a.doc.now a.r.0 a.most a.r.0 (omega arith))
    (λ h. own_far a.doc.now a.r.0 a.most a.r.0 (omega arith) (omega arith)) c.then-most-l.either)

pub returns : goal.returns
unfolding level_of
returns c =
    let own : let a =
    c.args in c.kind_sound.result ≡ own_sound (catalogue_of a.doc.now a.r.0) a.r.0 a.most = let a = c.args in
    let size = c.size.ensures.0 in
    let prop = to_z-of_z {w = w32} (record { sfits = c.prop.type_inv }) ∙ c.prop.ensures in
    c.kind_sound.ensures ∙ own_read a.doc.now a.r.0 a.most a.r.0 size
    c.level-l.ensures.0 c.kind.ensures.0 prop (omega arith) (omega arith) in
    rw c.then_some.ensures (row_found own c.level-l.ensures.0)
