-- What document 02's L1 leaves open: each point with texts that tell its readings apart, and what each is read as.
--     typed s                        the bytes of a text
--     Row                            a text, and what it is read as
--     outside s p, inside s bs       refusal 9 at p; the records bs
--     literal, a, operate ..         records with their operands
--     several n s                    text s n times
--     rows                           the table
--     answered                       every text of the table is read so
use Prim.Native.Nat.{ℕ, zero, suc}
use Prim.Native.Char.{code}
use Prim.Native.String.{String, [] as nothing, ◌∷◌ as ◌before◌, ◌++◌ as ◌and◌}
use mathlib.Core.Path.{◌≡◌, refl}
use mathlib.Core.Bool.{true, false}
use mathlib.Core.List.{List, [], ◌∷◌, ◌++◌, map}
use Rattle.codes.specs.declared.Function.{Function}
use Rattle.codes.specs.declared.Function.TheVariants.{Add, Subtract, Multiply, Divide, Equal, Less}
use Rattle.codes.specs.declared.Axis.{Axis}
use Rattle.codes.specs.declared.Axis.TheVariants.{Child, Descendant, DescendantOrSelf, Itself}
use Rattle.codes.specs.declared.Axis.TheVariants.{Parent, Ancestor, Following, Preceding}
use Rattle.codes.specs.declared.Test.{Test}
use Rattle.codes.specs.declared.Test.TheVariants.{AnyNode, Element, Text, Named}
use Rattle.cells.specs.Bytes as Bytes
use Rattle.laws.specs.Attempt.{Reading, refuses, reads}
use Rattle.grammar.specs.Records.{minus_bits, record_ql, record_qb, record_qe, record_qr, record_qv, record_qs, record_qt}
use Rattle.grammar.specs.Records.{record_qf, record_qi, record_qo, record_qc, record_qd, record_qx}
use Rattle.laws.specs.Characters.{is_space, is_digit, is_letter, first}
use Rattle.grammar.specs.Spelled.{joins}
use Rattle.parsing.specs.Reader.{rest, ended, skip, is_variable, read}

typed : String → List ℕ
typed nothing = []
typed (◌before◌ c s) = code c ∷ typed s

several : ℕ → String → String
several zero s = ""
several (suc n) s = s and several n s

abbrev Row : Type 0
Row = String × Reading (List ℕ)

abbrev outside : String → ℕ → Row
outside s p = (s, refuses 9 p)

abbrev inside : String → List ℕ → Row
inside s bs = (s, reads bs)

-- Records

abbrev literal : ℕ → List ℕ
literal n = record_ql n

abbrev negative : ℕ → List ℕ
negative n = record_ql (minus_bits n)

abbrev one : List ℕ
one = literal 1

abbrev two : List ℕ
two = literal 2

abbrev three : List ℕ
three = literal 3

abbrev four : List ℕ
four = literal 4

abbrev a : List ℕ
a = record_qv 0

abbrev sequence : List ℕ → List ℕ → List ℕ
sequence x y = record_qs ++ (x ++ y)

abbrev operate : Function → List ℕ → List ℕ → List ℕ
operate f x y = record_qo f ++ (x ++ y)

abbrev stepped : Axis → Test → List ℕ → List ℕ
stepped x t y = record_qx x t ++ y

abbrev named : ℕ → List ℕ → List ℕ
named n x = stepped Child (Named n) x

-- The table

rows : List Row
unfolding several
rows =
    -- eq and lt are not taken twice
    outside "1 eq 2 eq 3" 7
    ∷ outside "1 lt 2 eq 3" 7
    ∷ inside "(1 eq 2) eq 3" (operate Equal (operate Equal one two) three)
    -- a comma groups to the left
    ∷ inside "1,2,3" (sequence (sequence one two) three)
    -- count and data take one Single
    ∷ outside "count(1,2)" 7
    ∷ outside "data(1,2)" 6
    ∷ inside "count((1,2))" (record_qc ++ sequence one two)
    -- a condition may have commas
    ∷ inside "if (1,2) then 3 else 4" (record_qi ++ (sequence one two ++ (three ++ four)))
    -- a for has one clause
    ∷ outside "for $a in 1, $b in 2 return 3" 11
    -- a minus before an operand is the sign of a literal
    ∷ outside "- 1" 1
    ∷ outside "--1" 1
    ∷ outside "-$a" 1
    ∷ outside "-(1)" 1
    ∷ outside "+1" 0
    -- a minus after an operand subtracts
    ∷ inside "1-1" (operate Subtract one one)
    ∷ inside "1 -1" (operate Subtract one one)
    ∷ inside "1--1" (operate Subtract one (negative 1))
    ∷ outside "1 -- 1" 4
    -- a signed literal is one operand
    ∷ inside "-1/child::n2" (named 2 (negative 1))
    -- minus zero is 0
    ∷ inside "-0" (literal 0)
    -- zeros in front stand in integers and fragments, not in names
    ∷ inside "007" (literal 7)
    ∷ inside "-007" (negative 7)
    ∷ inside "root(01)" (record_qr 1)
    ∷ outside "1/child::n01" 11
    -- a minus directly after a name would join
    ∷ outside "$a-1" 2
    ∷ inside "$a -1" (operate Subtract a one)
    ∷ outside "1/child::n2-1" 11
    ∷ inside "1/child::n2 -1" (operate Subtract (named 2 one) one)
    -- a minus directly after a keyword would not
    ∷ inside "7 idiv-2" (operate Divide (literal 7) (negative 2))
    ∷ inside "for $a in 1 return-1" (record_qf 0 ++ (one ++ negative 1))
    -- digits and letters would join
    ∷ outside "7idiv 2" 1
    ∷ outside "7 idiv2" 6
    ∷ outside "1 eq2" 4
    ∷ outside "for $a in1 return 2" 9
    -- spaces stand inside $a, a::b and f( )
    ∷ inside "let $ a := 1 return $ a" (record_qt 0 ++ (one ++ a))
    ∷ inside "1/child :: n2" (named 2 one)
    ∷ inside "1 / child::node ( )" (stepped Child AnyNode one)
    ∷ outside "let $a : = 1 return 2" 8
    ∷ outside "1/child: :n2" 8
    ∷ outside "1/child::n 2" 10
    -- XML's four bytes are spaces, and there are no comments
    ∷ inside "1\t+\n1" (operate Add one one)
    ∷ inside "\r\n1 " one
    ∷ outside "1\u{c}" 1
    ∷ outside "(:c:)1" 1
    -- () is the empty sequence and no grouping
    ∷ inside (several 32 "(" and ("()" and several 32 ")")) record_qe
    -- after the 33rd parenthesis only () can come
    ∷ outside (several 33 "(" and "1") 33
    ∷ outside (several 34 "(") 33
    ∷ outside (several 32 "(" and "1") 33
    -- only grouping parentheses are counted, all that are open
    ∷ inside (several 31 "(" and ("count((1))" and several 31 ")")) (record_qc ++ one)
    ∷ outside (several 31 "(" and "count(((1") 39
    -- left of / stands a Primary, right of it a step with its axis
    ∷ outside "$a/n2" 3
    ∷ outside "$a/(1)" 3
    ∷ inside "1/child::n2" (named 2 one)
    ∷ inside "()/child::n2" (named 2 record_qe)
    ∷ inside "(1)/child::n2" (named 2 one)
    -- after :: a star is the test, after an operand the product
    ∷ inside "$a/child::**2" (operate Multiply (stepped Child Element a) two)
    -- the digit that leaves the range is the place
    ∷ outside "2147483648" 9
    ∷ inside "2147483647" (literal 2147483647)
    ∷ inside "-2147483648" (negative 2147483648)
    ∷ outside "-2147483649" 10
    ∷ outside "1 -2147483648" 12
    ∷ outside "root(256)" 7
    ∷ inside "root(255)" (record_qr 255)
    ∷ outside "1/child::n65536" 14
    ∷ inside "1/child::n65535" (named 65535 one)
    ∷ outside "21474836470" 10
    -- after root(0 a digit may come and nothing else
    ∷ outside "root(0)" 6
    ∷ outside "root(0 " 6
    ∷ outside "root(0" 6
    -- a text without words ends too early
    ∷ outside "" 0
    ∷ outside "   " 3
    -- depth hides no later 9
    ∷ outside (several 40 "count(" and ("1" and several 39 ")")) 280
    -- words that begin alike are told apart by their second byte
    ∷ outside "f" 1
    ∷ outside "fa" 2
    ∷ outside "fo" 2
    ∷ inside "false ( ) + 1" (operate Add (record_qb false) one)
    ∷ outside "1 e" 3
    ∷ outside "if (1) then 2 e" 15
    ∷ outside "if (1) then 2 eq 3 e" 20
    ∷ outside "if (1) then 2 eq 3 eq" 20
    ∷ inside "if (1) then 2 eq 3 else 4" (record_qi ++ (one ++ (operate Equal two three ++ four)))
    ∷ outside "1/p" 3
    ∷ outside "1/pr" 4
    ∷ inside "1/parent::*" (stepped Parent Element one)
    ∷ inside "1/preceding::text()" (stepped Preceding Text one)
    ∷ inside "1/descendant::n0" (stepped Descendant (Named 0) one)
    ∷ inside "1/descendant-or-self::n0" (stepped DescendantOrSelf (Named 0) one)
    ∷ outside "1/descendant-" 13
    ∷ outside "1/descendant -or-self::n0" 13
    ∷ outside "1/child::n" 10
    ∷ outside "1/child::no" 11
    -- every word is read, and tighter operators go first
    ∷ inside "if(true())then false()else()" (record_qi ++ (record_qb true ++ (record_qb false ++ record_qe)))
    ∷ inside "1/self::*/ancestor::*/following::*"
    (stepped Following Element (stepped Ancestor Element (stepped Itself Element one)))
    ∷ inside "let $h := data(1) return $h" (record_qt 7 ++ ((record_qd ++ one) ++ record_qv 7))
    ∷ inside "1*2+3 lt 4-4 idiv 3"
    (operate Less (operate Add (operate Multiply one two) three) (operate Subtract four (operate Divide four three)))
    ∷ inside "for$a in(1)return(2),3" (sequence (record_qf 0 ++ (one ++ two)) three)
    ∷ inside "if (1) then for $a in 2 return 3 else 4,1"
    (sequence (record_qi ++ (one ++ ((record_qf 0 ++ (two ++ three)) ++ four))) one)
    -- what ends a part is not taken inside another
    ∷ outside "1)" 1
    ∷ outside "(1" 2
    ∷ outside "1 return" 2
    ∷ outside "for $a in 1 ) return 1" 12
    ∷ outside "1 1" 2
    ∷ outside "1 lt for $a in 1 return 1" 6
    ∷ outside "for $i in 1 return 1" 5
    ∷ []

answered : map (λ (r : Row). read (typed r.0)) rows ≡ map (λ (r : Row). r.1) rows
unfolding rows typed is_space is_digit is_letter first joins rest ended skip is_variable record_ql Bytes.bytes_of
answered = refl
