-- The arms of `record_of`, one for each mark that has a field, as the code reads them.
--     variable_at bs at           the variable in the third byte of a record that is there
--     variable_record bs at f     a record of a variable: QV, QT or QF
--     integer_record, boolean_record, root_record, apply_record, step_record    QL, QB, QR, QO, QX
use Rattle.std.specs.Prelude.{ℕ, ◌+◌, List}
use Rattle.cells.specs.Bytes.{byte_at, word, int4, fits}
use Rattle.laws.specs.Attempt.{Attempt, gives, attempt, provided}
use Rattle.meaning.specs.Query.{Record, literal, root, function, step, variable_of}
use Rattle.codes.specs.Codes.{function_of, axis_of, test_of}
use Rattle.meaning.specs.Query.{fragment_of, boolean_of, sized}

unfoldable pub variable_at : List ℕ → ℕ → Attempt ℕ
variable_at bs at = provided (fits bs at 3) (variable_of (byte_at bs (at + 2)))

unfoldable pub variable_record : List ℕ → ℕ → (ℕ → Record) → Attempt (Record × ℕ)
variable_record bs at f = sized bs at 3 (attempt (variable_of (byte_at bs (at + 2))) (λ v. gives (f v)))

unfoldable pub integer_record : List ℕ → ℕ → Attempt (Record × ℕ)
integer_record bs at = sized bs at 6 (gives (literal (int4 bs (at + 2))))

unfoldable pub boolean_record : List ℕ → ℕ → Attempt (Record × ℕ)
boolean_record bs at = sized bs at 3 (attempt (boolean_of (byte_at bs (at + 2))) (λ b. gives (literal b)))

unfoldable pub root_record : List ℕ → ℕ → Attempt (Record × ℕ)
root_record bs at = sized bs at 3 (attempt (fragment_of (byte_at bs (at + 2))) (λ k. gives (root k)))

unfoldable pub apply_record : List ℕ → ℕ → Attempt (Record × ℕ)
apply_record bs at = sized bs at 3 (attempt (function_of (byte_at bs (at + 2))) (λ f. gives (function f)))

unfoldable pub step_record : List ℕ → ℕ → Attempt (Record × ℕ)
step_record bs at =
    sized bs at 6
    (attempt (axis_of (byte_at bs (at + 2)))
    (λ x. attempt (test_of (byte_at bs (at + 3)) (word bs (at + 4) 2)) (λ t. gives (step x t))))
