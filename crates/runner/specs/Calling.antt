-- What the call answers and leaves, before the cells past the filled are cleared (document 01, 'Room').
--     LeavesRan o cells r    the answer r is that of the outcome o, and so are the cells once all past the filled are
--                            zero
use Rattle.std.specs.Prelude.{◌≤◌, ◌≡◌, List, ℤ, pos, length, take, Result}
use Rattle.codes.specs.declared.refusals.Refusal.{Refusal}
use Rattle.laws.specs.Rows.{padded}
use Rattle.meaning.specs.Calls.{Outcome}
use Rattle.running.specs.declared.Tables.{Tables}
use Rattle.runner.specs.Answers.{answered, filled_by}

pub record LeavesRan (o : Outcome ℤ) (cells : List ℤ) (r : Result Tables Refusal) : Type 0 where
  pub answer : answered r ≡ o.answer
  pub left : padded (pos 0) (length cells) (take (filled_by r) cells) ≡ o.left
  pub within : filled_by r ≤ length cells
