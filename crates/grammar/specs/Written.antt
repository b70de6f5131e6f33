-- How a query's records are written as text (document 02, L1: 'A query's records can also be written as text that reads
-- back to the same records').
--     rank l              how tightly a level of the grammar holds, the loosest 0
--     looser a b          level a is looser than level b
--     spaced w            a word with one space before it and one after it
--     dollar v            a variable, with its `$`
--     truth_text b         a boolean: true() or false()
--     item_text h          a literal, by the item that its cell holds: an integer or a boolean
--     test_text t          a test
--     step_text x t        `/`, axis, `::`, test
--     function_word f      the word of a function
--     function_level f     the level that a function's expression has by itself
--     left_level f, right_level f     the levels that its operands are written at
--     own_level q          the level that a query's text has by itself
--     opening b, closing b, enclosed b t    a text in parentheses where b
--     for_head v, let_head v, if_head, count_head, data_head     what stands before the operands of a record
--     root_text k          root of fragment k
--     comma_text, then_text     `, ` and `) then `, which stand between operands
--     text_of l q          the text of a query where level l is asked for: in parentheses where its own level is looser
--     lent_text lent q     the text of a query, or 8 at 0 where it is longer than the lent bytes
--     write_outcome ..     the outcome of a call, by what it came to
--     write_call bs lent   text bytes            1 2 3 as the query check, then 8 at 0
use Rattle.std.specs.Prelude.{ℕ, suc, ◌+◌, List, [], ◌∷◌, ◌++◌, Bool, cond, ltb, leb, ℤ, pos, negsuc, length, Option, Some, None}
use Rattle.codes.specs.declared.Function.{Function}
use Rattle.codes.specs.declared.Function.TheVariants.{Add, Subtract, Multiply, Divide, Equal, Less}
use Rattle.codes.specs.declared.Axis.{Axis}
use Rattle.codes.specs.declared.Test.{Test}
use Rattle.codes.specs.declared.Test.TheVariants.{AnyNode, Element, Text, Named}
use Rattle.cells.specs.declared.Item.{Item}
use Rattle.cells.specs.declared.Item.TheVariants.{Integer, Truth, Node}
use Rattle.cells.specs.Cell.{held}
use Rattle.laws.specs.Attempt.{Reading, refuses, reads, reading, unless}
use Rattle.laws.specs.Rows.{padded}
use Rattle.meaning.specs.Query.{Query, QL, QE, QR, QV, QS, QT, QF, QI, QO, QC, QD, QX, query_read}
use Rattle.meaning.specs.Calls.{Outcome, gives, refusal}
use Rattle.pen.specs.Decimal.{decimal, signed}
use Rattle.grammar.specs.Words.{Word, eq, lt, plus, minus, times, idiv, comparer_word, adder_word, multiplier_word}
use Rattle.grammar.specs.Words.{axis_word, name_word, truth_word, for_word, in_word, let_word, becomes_sign, return_word}
use Rattle.grammar.specs.Words.{if_word, then_word, else_word, count_word, data_word, root_word, node_word, text_word}
use Rattle.grammar.specs.Grammar.{Level, expr, single, comparison, additive, multiplicative, path, primary}

-- Levels

unfoldable pub rank : Level → ℕ
rank expr = 0
rank single = 1
rank comparison = 2
rank additive = 3
rank multiplicative = 4
rank path = 5
rank primary = 6

unfoldable pub looser : Level → Level → Bool
looser a b = ltb (rank a) (rank b)

-- Pieces of text

abbrev pub spaced : Word → List ℕ
spaced w = 32 ∷ (w.bytes ++ (32 ∷ []))

abbrev pub dollar : ℕ → List ℕ
dollar v = 36 ∷ (97 + v) ∷ []

abbrev pub truth_text : Bool → List ℕ
truth_text b = (truth_word b).bytes ++ (40 ∷ 41 ∷ [])

-- no literal of a query is a node, or no item's cell
unfoldable pub item_text : Option Item → List ℕ
item_text (Some (Integer z)) = signed z
item_text (Some (Truth b)) = truth_text b
item_text (Some (Node r)) = []
item_text None = []

unfoldable pub test_text : Test → List ℕ
test_text AnyNode = node_word.bytes ++ (40 ∷ 41 ∷ [])
test_text Element = 42 ∷ []
test_text Text = text_word.bytes ++ (40 ∷ 41 ∷ [])
test_text (Named n) = (name_word n).bytes

unfoldable pub step_text : Axis → Test → List ℕ
step_text x t = 47 ∷ ((axis_word x).bytes ++ (58 ∷ 58 ∷ test_text t))

-- Functions: eq and lt; + and -; * and idiv

abbrev pub function_word : Function → Word
function_word Add = adder_word plus
function_word Subtract = adder_word minus
function_word Multiply = multiplier_word times
function_word Divide = multiplier_word idiv
function_word Equal = comparer_word eq
function_word Less = comparer_word lt

abbrev pub function_level : Function → Level
function_level Add = additive
function_level Subtract = additive
function_level Multiply = multiplicative
function_level Divide = multiplicative
function_level Equal = comparison
function_level Less = comparison

abbrev pub left_level : Function → Level
left_level Add = additive
left_level Subtract = additive
left_level Multiply = multiplicative
left_level Divide = multiplicative
left_level Equal = additive
left_level Less = additive

abbrev pub right_level : Function → Level
right_level Add = multiplicative
right_level Subtract = multiplicative
right_level Multiply = path
right_level Divide = path
right_level Equal = additive
right_level Less = additive

unfoldable pub own_level : Query → Level
own_level (QL at z) = primary
own_level (QE at) = primary
own_level (QR at k) = primary
own_level (QV at v) = primary
own_level (QS at a b) = expr
own_level (QT at v a b) = single
own_level (QF at v a b) = single
own_level (QI at c a b) = single
own_level (QO at f a b) = function_level f
own_level (QC at a) = primary
own_level (QD at a) = primary
own_level (QX at x t a) = path

-- Parentheses

abbrev pub opening : Bool → List ℕ
opening b = cond b (40 ∷ []) []

abbrev pub closing : Bool → List ℕ
closing b = cond b (41 ∷ []) []

unfoldable pub enclosed : Bool → List ℕ → List ℕ
enclosed b t = opening b ++ (t ++ closing b)

-- Records

-- `for $a in `
unfoldable pub for_head : ℕ → List ℕ
for_head v = for_word.bytes ++ (32 ∷ (dollar v ++ spaced in_word))

-- `let $a := `
unfoldable pub let_head : ℕ → List ℕ
let_head v = let_word.bytes ++ (32 ∷ (dollar v ++ spaced becomes_sign))

-- `if (`
abbrev pub if_head : List ℕ
if_head = if_word.bytes ++ (32 ∷ 40 ∷ [])

-- `) then `
abbrev pub then_text : List ℕ
then_text = 41 ∷ spaced then_word

-- `count(`
abbrev pub count_head : List ℕ
count_head = count_word.bytes ++ (40 ∷ [])

-- `data(`
abbrev pub data_head : List ℕ
data_head = data_word.bytes ++ (40 ∷ [])

-- `root(1)`
unfoldable pub root_text : ℕ → List ℕ
root_text k = root_word.bytes ++ (40 ∷ (decimal k ++ (41 ∷ [])))

-- `, `
abbrev pub comma_text : List ℕ
comma_text = 44 ∷ 32 ∷ []

unfoldable pub text_of : Level → Query → List ℕ
text_of l (QL at z) = item_text (held z)
text_of l (QE at) = 40 ∷ 41 ∷ []
text_of l (QR at k) = root_text k
text_of l (QV at v) = dollar v
text_of l (QS at a b) = enclosed (looser expr l) (text_of expr a ++ (comma_text ++ text_of single b))
text_of l (QT at v a b) =
    enclosed (looser single l) (let_head v ++ (text_of single a ++ (spaced return_word ++ text_of single b)))
text_of l (QF at v a b) =
    enclosed (looser single l) (for_head v ++ (text_of single a ++ (spaced return_word ++ text_of single b)))
text_of l (QI at c a b) =
    enclosed (looser single l)
    (if_head ++ (text_of expr c ++ (then_text ++ (text_of single a ++ (spaced else_word ++ text_of single b)))))
text_of l (QO at f a b) =
    enclosed (looser (function_level f) l)
    (text_of (left_level f) a ++ (spaced (function_word f) ++ text_of (right_level f) b))
text_of l (QC at a) = count_head ++ (text_of single a ++ (41 ∷ []))
text_of l (QD at a) = data_head ++ (text_of single a ++ (41 ∷ []))
text_of l (QX at x t a) = enclosed (looser path l) (text_of path a ++ step_text x t)

-- The call

unfoldable pub write_outcome : ℕ → Reading (List ℕ) → Outcome ℕ
write_outcome lent (refuses n p) = refusal 0 lent n p
write_outcome lent (reads t) = record { answer = gives (length t ∷ []); left = padded 0 lent t }

unfoldable pub lent_text : ℕ → Query → Reading (List ℕ)
lent_text lent q = unless (leb (length (text_of expr q)) lent) 8 0 (reads (text_of expr q))

unfoldable pub write_call : List ℕ → ℕ → Outcome ℕ
write_call bs lent = write_outcome lent (reading (query_read bs) (λ r. lent_text lent r.tree))
