-- What the answers of the code stand for in document 01 ('Plan operators', 'The eight refusals').
--     operator_of bs o    an operator of the code as one of the definitions; its columns and keys stand in the bytes
--     reading_of bs r      what reading at an offset found: the operator and the offset after it, or failing
--     ColumnsStand bs o   the columns of Project and the keys of Number stand within the bytes
--     ReadingStands bs r   the same of what reading found
--     pair_field f        two numbers that stand in fields, or failing
--     Means bs r a        what reading found is the attempt a of the definitions, and its columns are within the bytes
use Rattle.std.specs.Prelude.{ℕ, ◌+◌, ◌≤◌, ◌≡◌, List, length, Option, Some, None}
use Rattle.laws.specs.Attempt.{Attempt, fails, gives, tried}
use Rattle.meaning.specs.Plan.{Op, RT, RA, RP, RU, RD, RS, RJ, RN, RF, RV, RC, RE, RK, RX, RO, columns_at}
use Rattle.plan_records.specs.declared.Decoded.{Decoded}
use Rattle.plan_records.specs.declared.Operator.{Operator}

unfoldable pub operator_of : List ℕ → Operator → Op
operator_of bs Operator.One = RT
operator_of bs (Operator.Attach t z) = RA t z
operator_of bs (Operator.Project t n from) = RP t (columns_at bs from n)
operator_of bs (Operator.Union t u) = RU t u
operator_of bs (Operator.Minus t u) = RD t u
operator_of bs (Operator.Select t c) = RS t c
operator_of bs (Operator.Join t c u d) = RJ t c u d
operator_of bs (Operator.Number t p n from) = RN t p (columns_at bs from n)
operator_of bs (Operator.Apply t f c d) = RF t f c d
operator_of bs (Operator.Value t c) = RV t c
operator_of bs (Operator.Counts t c) = RC t c
operator_of bs (Operator.Truths t) = RE t
operator_of bs (Operator.Once t c) = RK t c
operator_of bs (Operator.Step t x y) = RX t x y
operator_of bs (Operator.Root t k) = RO t k

unfoldable pub reading_of : List ℕ → Option Decoded → Attempt (Op × ℕ)
reading_of bs (Some d) = gives (operator_of bs d.operator, d.next)
reading_of bs None = fails

unfoldable pub ColumnsStand : List ℕ → Operator → Type 0
ColumnsStand bs Operator.One = Unit {0}
ColumnsStand bs (Operator.Attach t z) = Unit {0}
ColumnsStand bs (Operator.Project t n from) = from + n ≤ length bs
ColumnsStand bs (Operator.Union t u) = Unit {0}
ColumnsStand bs (Operator.Minus t u) = Unit {0}
ColumnsStand bs (Operator.Select t c) = Unit {0}
ColumnsStand bs (Operator.Join t c u d) = Unit {0}
ColumnsStand bs (Operator.Number t p n from) = from + n ≤ length bs
ColumnsStand bs (Operator.Apply t f c d) = Unit {0}
ColumnsStand bs (Operator.Value t c) = Unit {0}
ColumnsStand bs (Operator.Counts t c) = Unit {0}
ColumnsStand bs (Operator.Truths t) = Unit {0}
ColumnsStand bs (Operator.Once t c) = Unit {0}
ColumnsStand bs (Operator.Step t x y) = Unit {0}
ColumnsStand bs (Operator.Root t k) = Unit {0}

unfoldable pub ReadingStands : List ℕ → Option Decoded → Type 0
ReadingStands bs (Some d) = ColumnsStand bs d.operator
ReadingStands bs None = Unit {0}

-- what reading promises
pub record Means (bs : List ℕ) (r : Option Decoded) (a : Attempt (Op × ℕ)) : Type 0 where
  pub means : reading_of bs r ≡ a
  pub stands : ReadingStands bs r

abbrev pub pair_field : Option (ℕ × ℕ) → Attempt (ℕ × ℕ)
pair_field = tried
