-- The translator's answer (document 01, 'The eight refusals').
--     answered r          the answer as document 01 numbers it
--     kept r              the bytes that the answer leaves: those of the plan, or none
--     cleared n y         zeros behind the first n bytes
--     WholeQuery bs       the bytes are one whole query of at most 128 records
--     Concludes bs x y r  the answer and the lent bytes that the query's plan decides
--     Translates bs x y r    the answer and the lent bytes that the call owes
use Rattle.std.specs.Prelude.{ℕ, ◌≤◌, ◌≡◌, List, [], ◌∷◌, length, take, Result, Ok, Err}
use Rattle.codes.specs.declared.refusals.Refusal.{Refusal}
use Rattle.meaning.specs.Query.{Query}
use Rattle.laws.specs.Attempt.{gives}
use Rattle.laws.specs.Rows.{padded}
use Rattle.meaning.specs.Calls.{Answer, refused_by, plan_of, translate_outcome, translate_call}
use Rattle.theorems.specs.Closed.{records}
use Rattle.query_walks.specs.Parse.{parse}
use Rattle.translator.specs.declared.Translated.{Translated}

unfoldable pub answered : Result Translated Refusal → Answer
answered (Ok t) = Answer.gives (t.operators ∷ t.bytes ∷ [])
answered (Err r) = refused_by r

abbrev pub kept : Result Translated Refusal → ℕ
kept (Ok t) = t.bytes
kept (Err r) = 0

abbrev pub cleared : ℕ → List ℕ → List ℕ
cleared n y = padded 0 (length y) (take n y)

pub record WholeQuery (bs : List ℕ) : Type 0 where
  pub q : Query
  pub read : parse 32 bs 0 ≡ gives (q, length bs)
  pub few : records q ≤ 128

abbrev pub Concludes : List ℕ → List ℕ → List ℕ → Result Translated Refusal → Type 0
Concludes bs x y r =
    (q : Query) → parse 32 bs 0 ≡ gives (q, length bs) →
    (answered r ≡ (translate_outcome (length x) (plan_of (length x) q)).answer) ×
    (y ≡ (translate_outcome (length x) (plan_of (length x) q)).left)

abbrev pub Translates : List ℕ → List ℕ → List ℕ → Result Translated Refusal → Type 0
Translates bs x y r =
    (answered r ≡ (translate_call bs (length x)).answer) × (y ≡ (translate_call bs (length x)).left)
