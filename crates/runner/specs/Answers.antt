-- What the runner answers, in the words of the definitions (document 01, 'Room', 'The eight refusals').
--     answered r         the last table's start and rows, and the cells filled; or refusal 5, 4, 6 or 7 and its place
--     filled_by r         the cells filled: none where it refuses
use Rattle.std.specs.Prelude.{ℕ, [], ◌∷◌, Result, Ok, Err}
use Rattle.codes.specs.declared.refusals.Refusal.{Refusal}
use Rattle.meaning.specs.Calls.{Answer, gives, refused_by}
use Rattle.running.specs.declared.Tables.{Tables}

unfoldable pub answered : Result Tables Refusal → Answer
answered (Ok t) = gives (t.start ∷ t.rows ∷ t.filled ∷ [])
answered (Err r) = refused_by r

unfoldable pub filled_by : Result Tables Refusal → ℕ
filled_by (Ok t) = t.filled
filled_by (Err r) = 0
