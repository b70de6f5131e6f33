-- The arms of the definitions' `operator_of`, one for each mark, as the code reads them.
--     one, attach, project, union, minus, select, join, number, function, counts, truths, once, step, root
--                            the record at an offset, taken for RT, RA, RP, RU, RD, RS, RJ, RN, RF, RC, RE, RK, RX, RO
--     value, apply           RF with function 7, and with one of the others
--     two_tables, column     the two tables of RU and RD; the table and the column of RS, RC and RK
use Rattle.std.specs.Prelude.{ℕ, ◌+◌, List}
use Rattle.cells.specs.Bytes.{int8, fits}
use Rattle.laws.specs.Attempt.{Attempt, gives, attempt, provided}
use Rattle.meaning.specs.Query.{fragment_of}
use Rattle.codes.specs.Codes.{function_of}
use Rattle.meaning.specs.Plan.{Op, RT, RU, RD, RS, RJ, RF, RV, RC, RE, RK, RO, sized, field, table, attach_at}
use Rattle.meaning.specs.Plan.{project_at}
use Rattle.meaning.specs.Plan.{number_at, function_at, step_at}

unfoldable pub one : List ℕ → ℕ → Attempt (Op × ℕ)
one bs at = sized bs at 2 (gives RT)

unfoldable pub attach : List ℕ → ℕ → Attempt (Op × ℕ)
attach bs at = sized bs at 12 (attach_at bs at (int8 bs (at + 4)))

unfoldable pub project : List ℕ → ℕ → Attempt (Op × ℕ)
project bs at = sized bs at (5 + field bs at 4) (project_at bs at (field bs at 4))

unfoldable pub union : List ℕ → ℕ → Attempt (Op × ℕ)
union bs at = sized bs at 6 (gives (RU (table bs at 2) (table bs at 4)))

unfoldable pub minus : List ℕ → ℕ → Attempt (Op × ℕ)
minus bs at = sized bs at 6 (gives (RD (table bs at 2) (table bs at 4)))

unfoldable pub select : List ℕ → ℕ → Attempt (Op × ℕ)
select bs at = sized bs at 5 (gives (RS (table bs at 2) (field bs at 4)))

unfoldable pub join : List ℕ → ℕ → Attempt (Op × ℕ)
join bs at = sized bs at 8 (gives (RJ (table bs at 2) (field bs at 4) (table bs at 5) (field bs at 7)))

unfoldable pub number : List ℕ → ℕ → Attempt (Op × ℕ)
number bs at = sized bs at (6 + field bs at 5) (number_at bs at (field bs at 5))

unfoldable pub value : List ℕ → ℕ → Attempt (Op × ℕ)
value bs at = sized bs at 6 (gives (RV (table bs at 2) (field bs at 5)))

unfoldable pub apply : List ℕ → ℕ → Attempt (Op × ℕ)
apply bs at =
    sized bs at 7
    (attempt (function_of (field bs at 4)) (λ g. gives (RF (table bs at 2) g (field bs at 5) (field bs at 6))))

unfoldable pub function : List ℕ → ℕ → Attempt (Op × ℕ)
function bs at = function_at bs at (field bs at 4)

unfoldable pub counts : List ℕ → ℕ → Attempt (Op × ℕ)
counts bs at = sized bs at 5 (gives (RC (table bs at 2) (field bs at 4)))

unfoldable pub truths : List ℕ → ℕ → Attempt (Op × ℕ)
truths bs at = sized bs at 4 (gives (RE (table bs at 2)))

unfoldable pub once : List ℕ → ℕ → Attempt (Op × ℕ)
once bs at = sized bs at 5 (gives (RK (table bs at 2) (field bs at 4)))

unfoldable pub step : List ℕ → ℕ → Attempt (Op × ℕ)
step bs at = sized bs at 8 (step_at bs at)

unfoldable pub root : List ℕ → ℕ → Attempt (Op × ℕ)
root bs at = sized bs at 5 (attempt (fragment_of (field bs at 4)) (λ k. gives (RO (table bs at 2) k)))

unfoldable pub two_tables : List ℕ → ℕ → Attempt (ℕ × ℕ)
two_tables bs at = provided (fits bs at 6) (gives (table bs at 2, table bs at 4))

unfoldable pub column : List ℕ → ℕ → Attempt (ℕ × ℕ)
column bs at = provided (fits bs at 5) (gives (table bs at 2, field bs at 4))
