-- `integer_of` meets its contract, by what the cell holds.
use mathlib.Core.Path.{◌≡◌, sym, ◌∙◌, ap}
use mir.Facts.{to_z-of_z}
use Rattle.cells.specs.Cell.{held}
use Rattle.meaning.specs.World.{integer_of, integer_in}
use Rattle.items.proofs.integer_of.Goals as goal

pub returns-in_err-item_of : goal.returns-in_err-item_of
unfolding integer_of integer_in
returns-in_err-item_of c =
    let holds : c.item_of.result ≡ held c.args.a = c.item_of.ensures ∙ ap held (to_z-of_z c.ranges.a) in
    rw c.from_residual.ensures (sym (ap integer_in (sym holds ∙ c.in_err-item_of.was)))

pub returns : goal.returns
unfolding integer_of
returns c =
    let holds : c.item_of.result ≡ held c.args.a = c.item_of.ensures ∙ ap held (to_z-of_z c.ranges.a) in
    c.integer_in.ensures ∙ sym (ap integer_in (sym holds ∙ c.in_ok-item_of.was))
