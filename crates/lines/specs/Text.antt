-- What the printing program prints (document 01, 'Marked examples', from 'Program `chartask`' on). A text is a list of
-- bytes, each the ASCII number of a character.
--     Text                a list of bytes
--     items_word, int_word, bool_word, node_word     the words that open a line, each with the space behind it
--     refused_word, at_word, same_word              .. `refused `, ` at `, `same `
--     yes_word, no_word, room_word                  the three verdicts
--     line_end             the end of a line
--     truth_digit b        0 or 1
--     integer_line z, truth_line b, node_line r     `int Z`; `bool 0` or `bool 1`; `node R`
--     held_line h          the line of what a cell holds; a cell that holds no item has no line
--     item_line z          the line of a cell's item
--     refused_line n p     `refused n at p`
--     items_line n         `items N`
--     first_lines t xs     `items N` and a line for each of the items xs; or the refusal
--     same_line v          `same yes`, `same no` or `same room`
--     text ..             all lines: of what the translator, the runner and the evaluator told, and both engines' items
--     same_no              the bytes `same no`
--     Nowhere word t      the bytes of a word stand nowhere in text t
use Rattle.std.specs.Prelude.{ℕ, ◌≡◌, List, [], ◌∷◌, ◌++◌, Bool, true, false, ℤ, take, Option, Some, None}
use Rattle.cells.specs.declared.Item.{Item}
use Rattle.cells.specs.Cell.{held}
use Rattle.cells.specs.declared.Item.TheVariants.{Integer, Truth, Node}
use Rattle.laws.specs.Lists.{gather}
use Rattle.pen.specs.Decimal.{decimal, signed}
use Rattle.verdicts.specs.declared.Verdict.{Verdict}
use Rattle.verdicts.specs.declared.Verdict.TheVariants.{Agree, Differ, Room}
use Rattle.verdicts.specs.Compared.{Told, Gave, Refused, verdict}

abbrev pub Text : Type 0
Text = List ℕ

-- 'items ', 'int ', 'bool ', 'node '
abbrev pub items_word : Text
items_word = 105 ∷ 116 ∷ 101 ∷ 109 ∷ 115 ∷ 32 ∷ []

abbrev pub int_word : Text
int_word = 105 ∷ 110 ∷ 116 ∷ 32 ∷ []

abbrev pub bool_word : Text
bool_word = 98 ∷ 111 ∷ 111 ∷ 108 ∷ 32 ∷ []

abbrev pub node_word : Text
node_word = 110 ∷ 111 ∷ 100 ∷ 101 ∷ 32 ∷ []

-- 'refused ', ' at ', 'same '
abbrev pub refused_word : Text
refused_word = 114 ∷ 101 ∷ 102 ∷ 117 ∷ 115 ∷ 101 ∷ 100 ∷ 32 ∷ []

abbrev pub at_word : Text
at_word = 32 ∷ 97 ∷ 116 ∷ 32 ∷ []

abbrev pub same_word : Text
same_word = 115 ∷ 97 ∷ 109 ∷ 101 ∷ 32 ∷ []

-- 'yes', 'no', 'room'
abbrev pub yes_word : Text
yes_word = 121 ∷ 101 ∷ 115 ∷ []

abbrev pub no_word : Text
no_word = 110 ∷ 111 ∷ []

abbrev pub room_word : Text
room_word = 114 ∷ 111 ∷ 111 ∷ 109 ∷ []

-- the end of a line, the digits 0 and 1
abbrev pub line_end : Text
line_end = 10 ∷ []

abbrev pub truth_digit : Bool → Text
truth_digit false = 48 ∷ []
truth_digit true = 49 ∷ []

unfoldable pub integer_line : ℤ → Text
integer_line z = int_word ++ (signed z ++ line_end)

unfoldable pub truth_line : Bool → Text
truth_line b = bool_word ++ (truth_digit b ++ line_end)

unfoldable pub node_line : ℕ → Text
node_line r = node_word ++ (decimal r ++ line_end)

unfoldable pub held_line : Option Item → Text
held_line (Some (Integer z)) = integer_line z
held_line (Some (Truth b)) = truth_line b
held_line (Some (Node r)) = node_line r.0
held_line None = []

unfoldable pub item_line : ℤ → Text
item_line z = held_line (held z)

unfoldable pub refused_line : ℕ → ℕ → Text
refused_line n p = refused_word ++ (decimal n ++ (at_word ++ (decimal p ++ line_end)))

unfoldable pub items_line : ℕ → Text
items_line n = items_word ++ (decimal n ++ line_end)

unfoldable pub first_lines : Told → List ℤ → Text
first_lines (Gave n) xs = items_line n ++ gather item_line (take n xs)
first_lines (Refused n p) xs = refused_line n p

unfoldable pub same_line : Verdict → Text
same_line Agree = same_word ++ (yes_word ++ line_end)
same_line Differ = same_word ++ (no_word ++ line_end)
same_line Room = same_word ++ (room_word ++ line_end)

-- after a translator's refusal there is no other line
unfoldable pub text : Told → Told → List ℤ → Told → List ℤ → Text
text (Refused n p) ran xs evaluated ys = refused_line n p
text (Gave k) ran xs evaluated ys = first_lines ran xs ++ same_line (verdict ran xs evaluated ys)

abbrev pub same_no : Text
same_no = same_word ++ no_word

abbrev pub Nowhere : Text → Text → Type 0
Nowhere word t = (before after : Text) → ¬ (t ≡ before ++ (word ++ after))
