-- What the evaluator is asked after the runner answered (document 01, 'Program `chartask`').
--     second a cells query doc     what the evaluator answers and leaves, where the runner answered a and left cells;
--                                  after 6 it is not asked, and the runner's answer and cells stand for its own
--     Within a lent                the rows of the last table stand in the lent cells
use Rattle.std.specs.Prelude.{ℕ, ◌+◌, ◌*◌, ◌≤◌, List, cond, ℤ, length}
use Rattle.meaning.specs.Calls.{Answer, Outcome, evaluate_call}
use Rattle.verdicts.specs.Compared.{refused_with}
use Rattle.lines.specs.Printed.{value_of, told_by}

unfoldable pub second : Answer → List ℤ → List ℕ → List ℕ → Outcome ℤ
second a cells query doc =
    cond (refused_with 6 (told_by 1 a)) (record { answer = a; left = cells }) (evaluate_call query doc (length cells))

abbrev pub Within : Answer → ℕ → Type 0
Within a lent = value_of 0 a + value_of 1 a * 3 ≤ lent
