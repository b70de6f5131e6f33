-- The words of a typed query (document 02, L1): XQuery 1.0's terminals, each with its bytes.
--     Kind               what a word ends in: a symbol; a letter or digit (word); a letter or digit of a variable's or
--                        an element's name (name)
--     Word               a word: its bytes and its kind
--     sign bs, fixed bs  a word of symbols; a word of letters
--     for_word, ..        the words that have one spelling each
--     Var                a variable, a to h: 0 to 7
--     Comparer, Adder, Multiplier     eq and lt; + and -; * and idiv
--     compares, adds, multiplies      the function of each
--     NodeTest           a test: node(), *, text(), or n and a number up to 65535
--     tested             the test of document 01's records
--     variable_word, comparer_word, adder_word, multiplier_word, axis_word, truth_word     how each is spelled
--     node_test_words      a test is spelled with one word or three
--     name_word, integer_word, negative_word     n and a number; digits; - directly before digits
use Rattle.std.specs.Prelude.{ℕ, ◌+◌, ◌<◌, ◌≤◌, List, [], ◌∷◌, Bool, true, false}
use Rattle.codes.specs.declared.Function.{Function}
use Rattle.codes.specs.declared.Function.TheVariants.{Add, Subtract, Multiply, Divide, Equal, Less}
use Rattle.codes.specs.declared.Axis.{Axis}
use Rattle.codes.specs.declared.Axis.TheVariants.{Child, Descendant, DescendantOrSelf, Itself}
use Rattle.codes.specs.declared.Axis.TheVariants.{Parent, Ancestor, Following, Preceding}
use Rattle.codes.specs.declared.Test.{Test}
use Rattle.codes.specs.declared.Test.TheVariants.{AnyNode, Element, Text, Named}
use Rattle.grammar.specs.Numerals.{Digits, digit_bytes}
use Rattle.pen.specs.Decimal.{decimal}

pub data Kind : Type 0 where
  symbol word name : Kind

pub record Word : Type 0 where
  pub bytes : List ℕ
  pub kind : Kind

abbrev pub sign : List ℕ → Word
sign bs = record { bytes = bs; kind = symbol }

abbrev pub fixed : List ℕ → Word
fixed bs = record { bytes = bs; kind = word }

-- Symbols

-- ,
abbrev pub comma_sign : Word
comma_sign = sign (44 ∷ [])

-- $
abbrev pub dollar_sign : Word
dollar_sign = sign (36 ∷ [])

-- :=
abbrev pub becomes_sign : Word
becomes_sign = sign (58 ∷ 61 ∷ [])

-- (
abbrev pub open_sign : Word
open_sign = sign (40 ∷ [])

-- )
abbrev pub close_sign : Word
close_sign = sign (41 ∷ [])

-- +
abbrev pub plus_sign : Word
plus_sign = sign (43 ∷ [])

-- -
abbrev pub minus_sign : Word
minus_sign = sign (45 ∷ [])

-- *
abbrev pub star_sign : Word
star_sign = sign (42 ∷ [])

-- /
abbrev pub slash_sign : Word
slash_sign = sign (47 ∷ [])

-- ::
abbrev pub axis_sign : Word
axis_sign = sign (58 ∷ 58 ∷ [])

-- Words of letters

-- for
abbrev pub for_word : Word
for_word = fixed (102 ∷ 111 ∷ 114 ∷ [])

-- in
abbrev pub in_word : Word
in_word = fixed (105 ∷ 110 ∷ [])

-- return
abbrev pub return_word : Word
return_word = fixed (114 ∷ 101 ∷ 116 ∷ 117 ∷ 114 ∷ 110 ∷ [])

-- let
abbrev pub let_word : Word
let_word = fixed (108 ∷ 101 ∷ 116 ∷ [])

-- if
abbrev pub if_word : Word
if_word = fixed (105 ∷ 102 ∷ [])

-- then
abbrev pub then_word : Word
then_word = fixed (116 ∷ 104 ∷ 101 ∷ 110 ∷ [])

-- else
abbrev pub else_word : Word
else_word = fixed (101 ∷ 108 ∷ 115 ∷ 101 ∷ [])

-- eq
abbrev pub eq_word : Word
eq_word = fixed (101 ∷ 113 ∷ [])

-- lt
abbrev pub lt_word : Word
lt_word = fixed (108 ∷ 116 ∷ [])

-- idiv
abbrev pub idiv_word : Word
idiv_word = fixed (105 ∷ 100 ∷ 105 ∷ 118 ∷ [])

-- node
abbrev pub node_word : Word
node_word = fixed (110 ∷ 111 ∷ 100 ∷ 101 ∷ [])

-- text
abbrev pub text_word : Word
text_word = fixed (116 ∷ 101 ∷ 120 ∷ 116 ∷ [])

-- true
abbrev pub true_word : Word
true_word = fixed (116 ∷ 114 ∷ 117 ∷ 101 ∷ [])

-- false
abbrev pub false_word : Word
false_word = fixed (102 ∷ 97 ∷ 108 ∷ 115 ∷ 101 ∷ [])

-- root
abbrev pub root_word : Word
root_word = fixed (114 ∷ 111 ∷ 111 ∷ 116 ∷ [])

-- count
abbrev pub count_word : Word
count_word = fixed (99 ∷ 111 ∷ 117 ∷ 110 ∷ 116 ∷ [])

-- data
abbrev pub data_word : Word
data_word = fixed (100 ∷ 97 ∷ 116 ∷ 97 ∷ [])

-- Variables

pub record Var : Type 0 where
  pub number : ℕ
  pub small : number < 8

-- a to h
abbrev pub variable_word : Var → Word
variable_word v = record { bytes = (97 + v.number) ∷ []; kind = name }

-- Operators

pub data Comparer : Type 0 where
  eq lt : Comparer

pub data Adder : Type 0 where
  plus minus : Adder

pub data Multiplier : Type 0 where
  times idiv : Multiplier

abbrev pub comparer_word : Comparer → Word
comparer_word eq = eq_word
comparer_word lt = lt_word

abbrev pub compares : Comparer → Function
compares eq = Equal
compares lt = Less

abbrev pub adder_word : Adder → Word
adder_word plus = plus_sign
adder_word minus = minus_sign

abbrev pub adds : Adder → Function
adds plus = Add
adds minus = Subtract

abbrev pub multiplier_word : Multiplier → Word
multiplier_word times = star_sign
multiplier_word idiv = idiv_word

abbrev pub multiplies : Multiplier → Function
multiplies times = Multiply
multiplies idiv = Divide

-- Axes: child, descendant, descendant-or-self, self, parent, ancestor, following, preceding

abbrev pub axis_word : Axis → Word
axis_word Child = fixed (99 ∷ 104 ∷ 105 ∷ 108 ∷ 100 ∷ [])
axis_word Descendant = fixed (100 ∷ 101 ∷ 115 ∷ 99 ∷ 101 ∷ 110 ∷ 100 ∷ 97 ∷ 110 ∷ 116 ∷ [])
axis_word DescendantOrSelf =
    fixed
    (100 ∷ 101 ∷ 115 ∷ 99 ∷ 101 ∷ 110 ∷ 100 ∷ 97 ∷ 110 ∷ 116 ∷ 45 ∷ 111 ∷ 114 ∷ 45 ∷ 115 ∷ 101 ∷ 108 ∷ 102 ∷ [])
axis_word Itself = fixed (115 ∷ 101 ∷ 108 ∷ 102 ∷ [])
axis_word Parent = fixed (112 ∷ 97 ∷ 114 ∷ 101 ∷ 110 ∷ 116 ∷ [])
axis_word Ancestor = fixed (97 ∷ 110 ∷ 99 ∷ 101 ∷ 115 ∷ 116 ∷ 111 ∷ 114 ∷ [])
axis_word Following = fixed (102 ∷ 111 ∷ 108 ∷ 108 ∷ 111 ∷ 119 ∷ 105 ∷ 110 ∷ 103 ∷ [])
axis_word Preceding = fixed (112 ∷ 114 ∷ 101 ∷ 99 ∷ 101 ∷ 100 ∷ 105 ∷ 110 ∷ 103 ∷ [])

-- Tests

pub data NodeTest : Type 0 where
  any_node : NodeTest
  element : NodeTest
  text_node : NodeTest
  named : (n : ℕ) → n ≤ 65535 → NodeTest

-- n directly before the number, which has no zero in front
abbrev pub name_word : ℕ → Word
name_word n = record { bytes = 110 ∷ decimal n; kind = name }

abbrev pub node_test_words : NodeTest → List Word
node_test_words any_node = node_word ∷ open_sign ∷ close_sign ∷ []
node_test_words element = star_sign ∷ []
node_test_words text_node = text_word ∷ open_sign ∷ close_sign ∷ []
node_test_words (named n small) = name_word n ∷ []

abbrev pub tested : NodeTest → Test
tested any_node = AnyNode
tested element = Element
tested text_node = Text
tested (named n small) = Named n

-- Literals

abbrev pub integer_word : Digits → Word
integer_word n = fixed (digit_bytes n)

-- the sign directly before the digits: one word
abbrev pub negative_word : Digits → Word
negative_word n = fixed (45 ∷ digit_bytes n)

abbrev pub truth_word : Bool → Word
truth_word true = true_word
truth_word false = false_word
