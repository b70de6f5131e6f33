-- `value` meets its contract, by what the cell holds.
use mathlib.Core.Path.{◌≡◌, sym, ◌∙◌, ap}
use mir.Facts.{to_z-of_z}
use Rattle.cells.specs.Cell.{held}
use Rattle.meaning.specs.Catalogue.{catalogue_of}
use Rattle.meaning.specs.World as World
use Rattle.meaning.specs.World.{value_in}
use Rattle.items.proofs.value.Goals as goal

pub returns-in_err-item_of : goal.returns-in_err-item_of
unfolding World.value value_in
returns-in_err-item_of c =
    let holds : c.item_of.result ≡ held c.args.a = c.item_of.ensures ∙ ap held (to_z-of_z c.ranges.a) in
    rw c.from_residual.ensures
    (sym (ap (value_in (catalogue_of c.args.doc.now c.args.rows)) (sym holds ∙ c.in_err-item_of.was)))

pub returns : goal.returns
unfolding World.value
returns c =
    let holds : c.item_of.result ≡ held c.args.a = c.item_of.ensures ∙ ap held (to_z-of_z c.ranges.a) in
    c.value_in.ensures
    ∙ sym (ap (value_in (catalogue_of c.args.doc.now c.args.rows)) (sym holds ∙ c.in_ok-item_of.was))
