-- What the printing program prints for the bytes of its two files (document 01, 'Marked examples', from 'Program
-- `chartask`' on).
--     value_of k a             value k of an answer, 0 of a refusal
--     told_by k a              an answer as it is told, value k its number
--     run_items o              the runner's items: column 2 of its last table
--     printed doc query       the text: the plan's bytes go to the runner, 8,192 cells to each engine
use Rattle.std.specs.Prelude.{ℕ, List, ℤ, take, get_or}
use Rattle.laws.specs.Rows.{rows_at}
use Rattle.meaning.specs.Operators.{column}
use Rattle.meaning.specs.Calls.{Answer, gives, refused, Outcome, translate_call, run_call, evaluate_call}
use Rattle.verdicts.specs.Compared.{Told, Gave, Refused}
use Rattle.lines.specs.Text.{Text, text}

-- value k of an answer, 0 of a refusal
unfoldable pub value_of : ℕ → Answer → ℕ
value_of k (gives ns) = get_or ns k 0
value_of k (refused n p) = 0

unfoldable pub told_by : ℕ → Answer → Told
told_by k (gives ns) = Gave (get_or ns k 0)
told_by k (refused n p) = Refused n p

unfoldable pub run_items : Outcome ℤ → List ℤ
run_items o = column (rows_at o.left (value_of 0 o.answer) (value_of 1 o.answer) 3) 2

-- the translator tells its operators, the runner its rows, the evaluator its items
unfoldable pub printed : List ℕ → List ℕ → Text
printed doc query =
    let t = translate_call query 6144 in
    let r = run_call (take (value_of 1 t.answer) t.left) doc 8192 in
    let e = evaluate_call query doc 8192 in
    text (told_by 0 t.answer) (told_by 1 r.answer) (run_items r) (told_by 0 e.answer) e.left
