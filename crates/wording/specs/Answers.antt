-- The writer's answer (document 02, L1).
--     answered r          the answer as document 01 numbers it
--     WritesWhole bs x y r  the answer of the call over lent bytes x; and y, with zeros behind the bytes that it counts,
--                         is what the call leaves
use Rattle.std.specs.Prelude.{ℕ, ◌≡◌, List, [], ◌∷◌, length, take, Result, Ok, Err}
use Rattle.std.specs.Result.{result_unwrap_or}
use Rattle.laws.specs.Rows.{padded}
use Rattle.codes.specs.declared.refusals.Refusal.{Refusal}
use Rattle.meaning.specs.Calls.{Answer, refused_by}
use Rattle.grammar.specs.Written.{write_call}

unfoldable pub answered : Result ℕ Refusal → Answer
answered (Ok n) = Answer.gives (n ∷ [])
answered (Err r) = refused_by r

abbrev pub WritesWhole : List ℕ → List ℕ → List ℕ → Result ℕ Refusal → Type 0
WritesWhole bs x y r =
    (answered r ≡ (write_call bs (length x)).answer) ×
    (padded 0 (length y) (take (result_unwrap_or r 0) y) ≡ (write_call bs (length x)).left)
