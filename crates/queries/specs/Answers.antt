-- What the answers of the query check stand for in document 01 ('The eight refusals').
--     answered c         the answer of the query check: the number of records, or refusal 1, 2 or 3 and its place
--     walked w           how far the query check came: the offset and the records so far, or refusal 1, 2 or 3
use Rattle.std.specs.Prelude.{ℕ, [], ◌∷◌, Result, Ok, Err}
use Rattle.laws.specs.Attempt.{Reading, refuses, reads}
use Rattle.codes.specs.Refusals.{number_of}
use Rattle.codes.specs.declared.refusals.Refusal.{Refusal}
use Rattle.meaning.specs.Calls.{Answer, refused_by}
use Rattle.queries.specs.declared.Passed.{Passed}

unfoldable pub answered : Result ℕ Refusal → Answer
answered (Ok n) = Answer.gives (n ∷ [])
answered (Err r) = refused_by r

unfoldable pub walked : Result Passed Refusal → Reading (ℕ × ℕ)
walked (Ok p) = reads (p.next, p.records)
walked (Err r) = refuses (number_of r.reason) r.place
