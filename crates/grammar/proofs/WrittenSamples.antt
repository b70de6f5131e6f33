-- Some texts that queries are written as, and some calls.
--     latitudes      the sample query: `for $a in root(1)/child::n2 return count($a/child::n3)`
--     minus_one      `1 - -1`
--     grouped        `(1, 2) + 3`, and left grouping needs no parentheses: `1 + 2 + 3`, but `1 + (2 + 3)`
--     tight          8 exactly where the text is longer than the lent bytes
use Prim.Native.Nat.{ℕ}
use mathlib.Core.Path.{◌≡◌, refl}
use mathlib.Core.List.{List, [], ◌∷◌}
use lib.IntN.{pos, negsuc}
use Rattle.codes.specs.declared.Function.TheVariants.{Add, Subtract}
use Rattle.codes.specs.declared.Axis.TheVariants.{Child}
use Rattle.codes.specs.declared.Test.TheVariants.{Named}
use Rattle.cells.specs.Cell.{held}
use Rattle.cells.specs.Bytes as Bytes
use Rattle.codes.specs.Codes as Codes
use Rattle.laws.specs.Attempt as Attempt
use Rattle.laws.specs.Rows as Rows
use Rattle.meaning.specs.Query as Query
use Rattle.meaning.specs.Query.{QL, QR, QV, QS, QF, QO, QC, QX}
use Rattle.meaning.specs.Calls.{gives, refusal}
use Rattle.pen.specs.Decimal.{digits, decimal, signed}
use Rattle.grammar.specs.Grammar.{expr}
use Rattle.grammar.specs.Written.{rank, looser, item_text, test_text, step_text, enclosed, for_head}
use Rattle.grammar.specs.Written.{root_text, text_of, write_outcome, lent_text, write_call}

latitudes : text_of expr (QF 0 0 (QX 3 Child (Named 2) (QR 9 1)) (QC 12 (QX 14 Child (Named 3) (QV 20 0))))
    ≡ 102 ∷ 111 ∷ 114 ∷ 32 ∷ 36 ∷ 97 ∷ 32 ∷ 105 ∷ 110 ∷ 32 ∷ 114 ∷ 111 ∷ 111 ∷ 116 ∷ 40 ∷ 49 ∷ 41 ∷ 47 ∷ 99 ∷ 104 ∷ 105
    ∷ 108 ∷ 100 ∷ 58 ∷ 58 ∷ 110 ∷ 50 ∷ 32 ∷ 114 ∷ 101 ∷ 116 ∷ 117 ∷ 114 ∷ 110 ∷ 32 ∷ 99 ∷ 111 ∷ 117 ∷ 110 ∷ 116 ∷ 40
    ∷ 36 ∷ 97 ∷ 47 ∷ 99 ∷ 104 ∷ 105 ∷ 108 ∷ 100 ∷ 58 ∷ 58 ∷ 110 ∷ 51 ∷ 41 ∷ []
unfolding rank looser test_text step_text enclosed for_head root_text text_of decimal digits
latitudes = refl

minus_one : text_of expr (QO 0 Subtract (QL 3 (pos 1)) (QL 9 (negsuc 0))) ≡ 49 ∷ 32 ∷ 45 ∷ 32 ∷ 45 ∷ 49 ∷ []
unfolding rank looser signed item_text enclosed text_of decimal digits held
minus_one = refl

grouped : text_of expr (QO 0 Add (QS 3 (QL 5 (pos 1)) (QL 11 (pos 2))) (QL 17 (pos 3)))
    ≡ 40 ∷ 49 ∷ 44 ∷ 32 ∷ 50 ∷ 41 ∷ 32 ∷ 43 ∷ 32 ∷ 51 ∷ []
unfolding rank looser signed item_text enclosed text_of decimal digits held
grouped = refl

left_grouped : text_of expr (QO 0 Add (QO 3 Add (QL 6 (pos 1)) (QL 12 (pos 2))) (QL 18 (pos 3)))
    ≡ 49 ∷ 32 ∷ 43 ∷ 32 ∷ 50 ∷ 32 ∷ 43 ∷ 32 ∷ 51 ∷ []
unfolding rank looser signed item_text enclosed text_of decimal digits held
left_grouped = refl

right_grouped : text_of expr (QO 0 Add (QL 3 (pos 1)) (QO 9 Add (QL 12 (pos 2)) (QL 18 (pos 3))))
    ≡ 49 ∷ 32 ∷ 43 ∷ 32 ∷ 40 ∷ 50 ∷ 32 ∷ 43 ∷ 32 ∷ 51 ∷ 41 ∷ []
unfolding rank looser signed item_text enclosed text_of decimal digits held
right_grouped = refl

-- the records of `-5 eq ()`
compared : List ℕ
compared = 0x51 ∷ 0x4F ∷ 5 ∷ 0x51 ∷ 0x4C ∷ 255 ∷ 255 ∷ 255 ∷ 251 ∷ 0x51 ∷ 0x45 ∷ []

fits_just : write_call compared 8
    ≡ record { answer = gives (8 ∷ []); left = 45 ∷ 53 ∷ 32 ∷ 101 ∷ 113 ∷ 32 ∷ 40 ∷ 41 ∷ [] }
unfolding compared write_call write_outcome lent_text text_of enclosed looser rank signed item_text decimal digits held
    Query.query_read Query.read Query.record_at Query.record_of Query.sized Query.operands Query.leaf Query.two Query.one
    Attempt.reading Attempt.unless Attempt.refusing Attempt.provided Attempt.attempt Bytes.word Bytes.int4 Bytes.signed
    Bytes.fits Codes.function_of Rows.padded
fits_just = refl

one_too_few : write_call compared 7 ≡ refusal 0 7 8 0
unfolding compared write_call write_outcome lent_text text_of enclosed looser rank signed item_text decimal digits held
    Query.query_read Query.read Query.record_at Query.record_of Query.sized Query.operands Query.leaf Query.two Query.one
    Attempt.reading Attempt.unless Attempt.refusing Attempt.provided Attempt.attempt Bytes.word Bytes.int4 Bytes.signed
    Bytes.fits Codes.function_of refusal
one_too_few = refl
