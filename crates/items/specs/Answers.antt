-- What this crate's functions answer, in the words of the definitions.
--     tried t           a cell, or that it fails
--     judged j          a truth value, or that it fails
--     integer_tried n    an integer as a cell, or that there is none
--     holding i         what an item's cell holds
--     text_value c r     the value of the node of rank r
--     truth_of i alone   truth of a condition whose first item is i, and whose only one where `alone`
use Rattle.std.specs.Prelude.{ℕ, Bool, true, not, ◌&&◌, ltb, eqb, ℤ, pos, Option, Some}
use Rattle.cells.specs.Cell.{same}
use Rattle.cells.specs.declared.Item.{Item}
use Rattle.cells.specs.declared.Item.TheVariants.{Integer, Truth, Node}
use Rattle.laws.specs.Attempt.{Attempt, gives, provided}
use Rattle.laws.specs.Attempt as Trying
use Rattle.meaning.specs.Catalogue.{Catalogue, text}

abbrev pub tried : Option ℤ → Attempt ℤ
tried = Trying.tried

abbrev pub judged : Option Bool → Attempt Bool
judged = Trying.tried

abbrev pub integer_tried : Option ℤ → Attempt ℤ
integer_tried = Trying.tried

abbrev pub holding : Item → Option Item
holding i = Some i

unfoldable pub text_value : Catalogue → ℕ → Attempt ℤ
text_value c r = provided (ltb r c.rows && eqb (c.kind r) text) (gives (c.prop r))

unfoldable pub truth_of : Item → Bool → Attempt Bool
truth_of (Node r) alone = gives true
truth_of (Truth b) alone = provided alone (gives b)
truth_of (Integer z) alone = provided alone (gives (not (same z (pos 0))))
