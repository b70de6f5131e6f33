-- What this crate's functions answer, in the words of the definitions.
--     answered a     the answer of the catalogue's check: the rows, or the refusal
--     counted a      the same as a reading of the number of rows
use Rattle.std.specs.Prelude.{ℕ, [], ◌∷◌, Result, Ok, Err}
use Rattle.codes.specs.Refusals.{number_of}
use Rattle.codes.specs.declared.refusals.Refusal.{Refusal}
use Rattle.laws.specs.Attempt.{Reading, reads, refuses}
use Rattle.meaning.specs.Calls.{Answer, gives, refused_by}

unfoldable pub answered : Result ℕ Refusal → Answer
answered (Ok n) = gives (n ∷ [])
answered (Err r) = refused_by r

unfoldable pub counted : Result ℕ Refusal → Reading ℕ
counted (Ok n) = reads n
counted (Err r) = refuses (number_of r.reason) r.place
