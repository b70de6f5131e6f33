-- What a caller of `check` learns.
--     check_reads       the query check answered a number of records: `query_read` reads
--     check_refuses     it answered a refusal: `query_read` refuses the same
use Rattle.std.specs.Prelude.{Result, Ok, Err}
use Prim.Native.Nat.{ℕ}
use mathlib.Core.Path.{◌≡◌, refl, sym, ◌∙◌, ap}
use mathlib.Core.List.{List, [], ◌∷◌}
use native.Mathlib.Omega.{arith}
use Rattle.codes.specs.Refusals.{number_of}
use Rattle.codes.specs.declared.refusals.Refusal.{Refusal}
use Rattle.laws.specs.Attempt.{Reading, refuses, reads}
use Rattle.meaning.specs.Query.{Read, query_read}
use Rattle.meaning.specs.Calls.{Answer, refused_by, query_answer, query_call}
use Rattle.queries.specs.Answers.{answered}

module _ (bs : List ℕ) (c : Result ℕ Refusal) (e : answered c ≡ query_call bs) where
  pub check_reads : (n : ℕ) → c ≡ Ok n → (r : Read) × (query_read bs ≡ reads r) × (r.records ≡ n)
  unfolding query_call query_answer answered
  check_reads n h = go (query_read bs) refl (sym (ap answered h) ∙ e)
    where
      go :
          (a : Reading Read) → query_read bs ≡ a → Answer.gives (n ∷ []) ≡ query_answer a →
          (r : Read) × (query_read bs ≡ reads r) × (r.records ≡ n)
      go (refuses k p) q s = let z : ◌≡◌ {A = ℕ} 0 1 = cc in absurd (omega arith)
      go (reads r) q s = (r, q, cc)

  pub check_refuses : (r : Refusal) → c ≡ Err r → query_read bs ≡ refuses (number_of r.reason) r.place
  unfolding query_call query_answer answered
  check_refuses r h = go (query_read bs) refl (sym (ap answered h) ∙ e)
    where
      go :
          (a : Reading Read) → query_read bs ≡ a → refused_by r ≡ query_answer a →
          query_read bs ≡ refuses (number_of r.reason) r.place
      go (refuses k p) q s = cc
      go (reads x) q s = let z : ◌≡◌ {A = ℕ} 0 1 = cc in absurd (omega arith)
