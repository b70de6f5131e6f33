-- The text of a row. A text is a list of bytes, each the ASCII number of a character.
--     truth_word b      `false` or `true`
--     held_text h       what is held, as text
--     cell_text z       the item of a cell: an integer as itself, `false`, `true`, or `node` and its rank
--     at_right w        a word at the right of 12 characters; one that is longer stands alone
--     column z         a cell in its column
--     row_line zs       the cells of a row in their columns, and the line's end
use Rattle.std.specs.Prelude.{List, [], ◌∷◌, ◌++◌, Bool, true, false, ℤ, length, drop, replicate, Option, Some, None}
use Rattle.cells.specs.declared.Item.{Item}
use Rattle.cells.specs.Cell.{held}
use Rattle.cells.specs.declared.Item.TheVariants.{Integer, Truth, Node}
use Rattle.laws.specs.Lists.{gather}
use Rattle.pen.specs.Decimal.{decimal, signed}
use Rattle.lines.specs.Text.{Text, node_word, line_end}

abbrev pub truth_word : Bool → Text
truth_word false = 102 ∷ 97 ∷ 108 ∷ 115 ∷ 101 ∷ []
truth_word true = 116 ∷ 114 ∷ 117 ∷ 101 ∷ []

unfoldable pub held_text : Option Item → Text
held_text (Some (Integer z)) = signed z
held_text (Some (Truth b)) = truth_word b
held_text (Some (Node r)) = node_word ++ decimal r.0
held_text None = []

unfoldable pub cell_text : ℤ → Text
cell_text z = held_text (held z)

unfoldable pub at_right : Text → Text
at_right w = drop (length w) (replicate 12 32) ++ w

unfoldable pub column : ℤ → Text
column z = at_right (cell_text z)

unfoldable pub row_line : List ℤ → Text
row_line zs = gather column zs ++ line_end
