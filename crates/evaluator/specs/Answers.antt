-- What the evaluator answers (document 01, 'The eight refusals', 'Room').
--     answered r         the number and values of each answer: items and count, or a refusal and its place
--     concluding r       the answer where everything passed its checks and r stands on the stack
--     standing r         how many items r leaves from cell 0 on
use Rattle.std.specs.Prelude.{ℕ, [], ◌∷◌, Result, Ok, Err}
use Rattle.codes.specs.Refusals.{refusal_of}
use Rattle.codes.specs.declared.refusals.Refusal.{Refusal}
use Rattle.codes.specs.declared.refusals.Stop.{Stop}
use Rattle.meaning.specs.Calls.{Answer, gives, refused_by}
use Rattle.stack.specs.declared.Stood.{Stood}
use Rattle.evaluator.specs.declared.Evaluated.{Evaluated}

unfoldable pub answered : Result Evaluated Refusal → Answer
answered (Ok e) = gives (e.items ∷ e.count ∷ [])
answered (Err r) = refused_by r

unfoldable pub concluding : Result Stood Stop → Result Evaluated Refusal
concluding (Ok s) = Ok (record { items = s.length; count = s.count })
concluding (Err e) = Err (refusal_of e)

abbrev pub standing : Result Evaluated Refusal → ℕ
standing (Ok e) = e.items
standing (Err r) = 0
