-- What the call answers and leaves, before the cells past the items are cleared (document 01, 'Room').
--     Attempts o cells r     the answer r is that of the outcome o, and so are the cells once all past the items are
--                            zero
use Rattle.std.specs.Prelude.{◌≤◌, ◌≡◌, List, ℤ, pos, length, take, Result}
use Rattle.codes.specs.declared.refusals.Refusal.{Refusal}
use Rattle.laws.specs.Rows.{padded}
use Rattle.meaning.specs.Calls.{Outcome}
use Rattle.evaluator.specs.declared.Evaluated.{Evaluated}
use Rattle.evaluator.specs.Answers.{answered, standing}

pub record Attempts (o : Outcome ℤ) (cells : List ℤ) (r : Result Evaluated Refusal) : Type 0 where
  pub answer : answered r ≡ o.answer
  pub left : padded (pos 0) (length cells) (take (standing r) cells) ≡ o.left
  pub within : standing r ≤ length cells
