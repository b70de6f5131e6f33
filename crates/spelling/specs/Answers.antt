-- What the code's answers say of a text: each names a place, and so what is left there.
--     kind_is b               the kind of what stands directly before
--     entered k              past the spaces: nothing is read
--     called_word cs a        the rest of a word, empty parentheses, and a
--     or_self, descendant_rest, parent_rest, named_rest, node_rest, step_test, step_rest, else_rest, equal_rest, one_word,
--     more_word, equal_word, last_word, close_word, end_word, next_word
--                                parts of the reader, each as its function of the code has it
--     Reads text def told p  the answer that was told is the definition's, and its place p is in the text
--     fixed_told text r      what a Fixed says
--     ReadsFixed text r def  a Fixed is what the definition answers
--     value_told text r      what the answer of a reader of values says
--     ReadsValue text r def  .. and so for them
use Rattle.std.specs.Prelude.{ℕ, ◌≤◌, ◌≡◌, List, [], ◌∷◌, Bool, not, ◌||◌, length, drop, Result, Ok, Err}
use Rattle.codes.specs.declared.Axis.{Axis}
use Rattle.codes.specs.declared.Axis.TheVariants.{Descendant, DescendantOrSelf, Parent, Preceding}
use Rattle.codes.specs.declared.Test.{Test}
use Rattle.codes.specs.declared.Test.TheVariants.{AnyNode, Named}
use Rattle.numerals.specs.declared.Read.{Read}
use Rattle.numerals.specs.declared.Stuck.{Stuck}
use Rattle.numerals.specs.Answers.{fixed_place, read_place}
use Rattle.parsing.specs.declared.Ends.{Ends}
use Rattle.parsing.specs.declared.Next.{Next}
use Rattle.parsing.specs.declared.Next.TheVariants.{Slash, Star, Idiv, Plus, Minus, Eq, Lt, Comma, Close}
use Rattle.parsing.specs.declared.Next.TheVariants.{Return, Else, End}
use Rattle.grammar.specs.Words.{Kind, symbol, word, name, axis_sign}
use Rattle.parsing.specs.declared.Step.{Step}
use Rattle.parsing.specs.Reader.{Res, ok, stuck, Reader, then, give, halt, either, past, at_end, byte, allowed}
use Rattle.parsing.specs.Reader.{entry}
use Rattle.parsing.specs.Reader.{letters, spelled, brackets, read_word, read_name, read_test}
use Rattle.parsing.specs.Reader.{by_text, by_comma, by_close, by_return, by_else}
use Rattle.spelling.specs.declared.Before as before
use Rattle.spelling.specs.declared.Before.TheVariants as before-is

abbrev pub kind_is : before.Before → Kind
kind_is before-is.Symbol = symbol
kind_is before-is.Word = word
kind_is before-is.Name = name

abbrev pub entered : Kind → Reader (Unit {0})
entered k = entry k (give tt)

-- Parts of the reader that are functions of the code

module _ {A : Type 0} where
  abbrev pub called_word : List ℕ → A → Reader A
  called_word cs a t = then (letters cs t) (λ done. brackets a)

abbrev pub or_self : Reader Axis
or_self = byte 45 (spelled (111 ∷ 114 ∷ 45 ∷ 115 ∷ 101 ∷ 108 ∷ 102 ∷ []) DescendantOrSelf) (give Descendant)

abbrev pub descendant_rest : Reader Axis
descendant_rest t =
    then (letters (101 ∷ 115 ∷ 99 ∷ 101 ∷ 110 ∷ 100 ∷ 97 ∷ 110 ∷ 116 ∷ []) t) (λ done. or_self)

abbrev pub parent_rest : Reader Axis
parent_rest =
    byte 97 (spelled (114 ∷ 101 ∷ 110 ∷ 116 ∷ []) Parent)
    (byte 114 (spelled (101 ∷ 99 ∷ 101 ∷ 100 ∷ 105 ∷ 110 ∷ 103 ∷ []) Preceding) halt)

abbrev pub named_rest : Reader Test
named_rest t = then (read_name t) (λ n. give (Named n))

abbrev pub node_rest : Reader Test
node_rest = byte 111 (called_word (100 ∷ 101 ∷ []) AnyNode) named_rest

abbrev pub step_test : Axis → Reader Step
step_test x t = then (entry symbol read_test t) (λ p. give (record { axis = x; test = p }))

abbrev pub step_rest : Axis → Reader Step
step_rest x t = then (read_word word axis_sign t) (λ done. step_test x)

abbrev pub else_rest : Bool → Reader Next
else_rest otherwise = allowed otherwise 108 (spelled (115 ∷ 101 ∷ []) Else) halt

abbrev pub equal_rest : Bool → Bool → Reader Next
equal_rest compares otherwise = allowed compares 113 (give Eq) (else_rest otherwise)

abbrev pub one_word : Bool → Next → Reader Next
one_word may n = either may (past (give n)) halt

abbrev pub more_word : Bool → List ℕ → Next → Reader Next
more_word may cs n = either may (past (spelled cs n)) halt

abbrev pub equal_word : Bool → Bool → Reader Next
equal_word compares otherwise = either (compares || otherwise) (past (equal_rest compares otherwise)) halt

abbrev pub last_word : Bool → Reader Next
last_word may = either may (give End) halt

abbrev pub close_word : Ends → Reader Next
close_word e =
    allowed (by_comma e) 44 (give Comma)
    (allowed (by_close e) 41 (give Close)
    (allowed (by_return e) 114 (spelled (101 ∷ 116 ∷ 117 ∷ 114 ∷ 110 ∷ []) Return)
    (either (by_text e) (at_end (give End) halt) halt)))

abbrev pub end_word : Ends → Bool → Reader Next
end_word e c =
    allowed (not c || by_else e) 101 (equal_rest (not c) (by_else e))
    (allowed (not c) 108 (spelled (116 ∷ []) Lt) (close_word e))

abbrev pub next_word : Ends → Bool → Reader Next
next_word e c =
    byte 47 (give Slash)
    (byte 42 (give Star)
    (byte 105 (spelled (100 ∷ 105 ∷ 118 ∷ []) Idiv)
    (byte 43 (give Plus)
    (byte 45 (give Minus) (end_word e c)))))

pub record Reads {A : Type 0} (text : List ℕ) (def told : Res A) (place : ℕ) : Type 0 where
  pub means : def ≡ told
  pub inside : place ≤ length text

unfoldable pub fixed_told : List ℕ → Result ℕ Stuck → Res (Unit {0})
fixed_told text (Ok p) = ok tt (drop p text)
fixed_told text (Err s) = stuck (drop s.0 text)

abbrev pub ReadsFixed : List ℕ → Result ℕ Stuck → Res (Unit {0}) → Type 0
ReadsFixed text r def = Reads text def (fixed_told text r) (fixed_place r)

module _ {A : Type 0} where
  unfoldable pub value_told : List ℕ → Result (Read A) Stuck → Res A
  value_told text (Ok r) = ok r.what (drop r.next text)
  value_told text (Err s) = stuck (drop s.0 text)

  abbrev pub ReadsValue : List ℕ → Result (Read A) Stuck → Res A → Type 0
  ReadsValue text r def = Reads text def (value_told text r) (read_place r)
