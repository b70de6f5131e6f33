-- The reader's answer (document 02, L1).
--     answered r           the answer as the documents number it
--     outcome r left       the answer, and the lent bytes that the call left
--     bytes_of r           how many bytes of records an answer counts; none, a refusal
--     cleared r y          the lent bytes y, with zeros behind those
--     HandsOut bs x y r   the answer and the lent bytes that the record bytes decide, y before zeros stand behind them
use Rattle.std.specs.Prelude.{ℕ, ◌≡◌, List, [], ◌∷◌, length, take, Result, Ok, Err}
use Rattle.laws.specs.Rows.{padded}
use Rattle.codes.specs.declared.refusals.Refusal.{Refusal}
use Rattle.meaning.specs.Query.{query_read}
use Rattle.meaning.specs.Calls.{Answer, gives, refused_by, Outcome}
use Rattle.grammar.specs.Typed.{records_outcome}
use Rattle.reader.specs.declared.Typed.{Typed}

unfoldable pub answered : Result Typed Refusal → Answer
answered (Ok t) = gives (t.records ∷ t.bytes ∷ [])
answered (Err r) = refused_by r

abbrev pub outcome : Result Typed Refusal → List ℕ → Outcome ℕ
outcome r left = record { answer = answered r; left = left }

abbrev pub bytes_of : Result Typed Refusal → ℕ
bytes_of (Ok t) = t.bytes
bytes_of (Err r) = 0

abbrev pub cleared : Result Typed Refusal → List ℕ → List ℕ
cleared r y = padded 0 (length y) (take (bytes_of r) y)

abbrev pub HandsOut : List ℕ → List ℕ → List ℕ → Result Typed Refusal → Type 0
HandsOut bs x y r = outcome r (cleared r y) ≡ records_outcome (length x) bs (query_read bs)
