-- What the operators of a translated plan need to be written (document 01, 'Plan operators' and 'Translation').
--     Own o             o's own fields, those that name no table and no column, can be written
--     Writable o        all fields of o can be written: tables in two bytes and columns in one
--     WidthFits w       w is 1 to 6
--     Fields q          the literals, roots and names of q can be written
--     PlanSound os      the operators fit and can be written, every width is 1 to 6, the last 3
use Rattle.std.specs.Prelude.{ℕ, ◌+◌, ◌≤◌, ◌<◌, ◌≡◌, List, [], ◌∷◌, ◌++◌, true, length}
use Rattle.cells.specs.Cell.{held}
use Rattle.laws.specs.Attempt.{gives}
use Rattle.meaning.specs.Query.{Query, QL, QE, QR, QV, QS, QT, QF, QI, QO, QC, QD, QX}
use Rattle.meaning.specs.Plan.{Op, RT, RA, RP, RU, RD, RS, RJ, RN, RF, RV, RC, RE, RK, RX, RO, plain_in}
use Rattle.codes.specs.Codes.{test_name}
use Rattle.theorems.specs.PlanWidths.{Every, widths}

-- the fields that do not name tables and columns
unfoldable pub Own : Op → Type 0
Own RT = Unit
Own (RA t z) = plain_in (held z) ≡ true
Own (RP t cs) = 1 ≤ length cs
Own (RU t u) = Unit
Own (RD t u) = Unit
Own (RS t c) = Unit
Own (RJ t c u d) = Unit
Own (RN t p ks) = (1 ≤ length ks) × (length ks ≤ 2)
Own (RF t f c d) = Unit
Own (RV t c) = Unit
Own (RC t c) = Unit
Own (RE t) = Unit
Own (RK t c) = Unit
Own (RX t x y) = test_name y < 65536
Own (RO t k) = (1 ≤ k) × (k ≤ 255)

-- all of them: tables in two bytes, columns in one
unfoldable pub Writable : Op → Type 0
Writable RT = Unit
Writable (RA t z) = (t < 65536) × (plain_in (held z) ≡ true)
Writable (RP t cs) = (t < 65536) × (1 ≤ length cs) × (length cs ≤ 6) × Every (λ c. c < 256) cs
Writable (RU t u) = (t < 65536) × (u < 65536)
Writable (RD t u) = (t < 65536) × (u < 65536)
Writable (RS t c) = (t < 65536) × (c < 256)
Writable (RJ t c u d) = (t < 65536) × (c < 256) × (u < 65536) × (d < 256)
Writable (RN t p ks) = (t < 65536) × (p < 256) × (1 ≤ length ks) × (length ks ≤ 2) × Every (λ k. k < 256) ks
Writable (RF t f c d) = (t < 65536) × (c < 256) × (d < 256)
Writable (RV t c) = (t < 65536) × (c < 256)
Writable (RC t c) = (t < 65536) × (c < 256)
Writable (RE t) = t < 65536
Writable (RK t c) = (t < 65536) × (c < 256)
Writable (RX t x y) = (t < 65536) × (test_name y < 65536)
Writable (RO t k) = (t < 65536) × (1 ≤ k) × (k ≤ 255)

-- a width is 1 to 6
pub record WidthFits (w : ℕ) : Type 0 where
  pub low : 1 ≤ w
  pub high : w ≤ 6

unfoldable pub Fields : Query → Type 0
Fields (QL at z) = plain_in (held z) ≡ true
Fields (QE at) = Unit
Fields (QR at k) = (1 ≤ k) × (k ≤ 255)
Fields (QV at v) = Unit
Fields (QS at a b) = Fields a × Fields b
Fields (QT at v a b) = Fields a × Fields b
Fields (QF at v a b) = Fields a × Fields b
Fields (QI at c a b) = Fields c × Fields a × Fields b
Fields (QO at f a b) = Fields a × Fields b
Fields (QC at a) = Fields a
Fields (QD at a) = Fields a
Fields (QX at x t a) = (test_name t < 65536) × Fields a

-- a plan whose operators all fit and can be written, every width 1 to 6, the last 3
pub record PlanSound (os : List Op) : Type 0 where
  pub front : List ℕ
  pub sound : widths [] os ≡ gives (front ++ (3 ∷ []))
  pub each : Every WidthFits (front ++ (3 ∷ []))
  pub writable : Every Writable os
