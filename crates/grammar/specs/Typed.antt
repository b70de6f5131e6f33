-- What a typed query is read as, and the call that reads it (document 02, L1).
--     Typed t bs          text t is in the grammar, and read as the record bytes bs
--     Begins t            t begins a text of the grammar
--     Outside t p         t is not in the grammar, and p is the first byte that no text of the grammar could have
--                         there, or the text's length where it only ends too early
--     records_outcome ..   the outcome of a text in the grammar, by how its records read: 2, 3, then 8 at 0; else the
--                         number of records and of their bytes, and the records with zeros after them
--     TypedCall t lent o  o is the outcome of the call: 9, or that of the records
use Rattle.std.specs.Prelude.{ℕ, suc, ◌≤◌, ◌<◌, ◌≡◌, List, [], ◌∷◌, ◌++◌, cond, leb, length, take}
use Rattle.laws.specs.Attempt.{Reading, refuses, reads}
use Rattle.laws.specs.Rows.{padded}
use Rattle.meaning.specs.Query.{Read, query_read}
use Rattle.meaning.specs.Calls.{Outcome, gives, refusal}
use Rattle.grammar.specs.Words.{symbol}
use Rattle.grammar.specs.Grammar.{expr, Part, most_groups, words, records}
use Rattle.grammar.specs.Spelled.{Spells}

pub record Typed (t bs : List ℕ) : Type 0 where
  pub part : Part expr most_groups
  pub meant : records part ≡ bs
  pub spelled : Spells symbol (words part) t

pub record Begins (t : List ℕ) : Type 0 where
  pub more : List ℕ
  pub bytes : List ℕ
  pub typed : Typed (t ++ more) bytes

pub record Outside (t : List ℕ) (p : ℕ) : Type 0 where
  pub untyped : (bs : List ℕ) → ¬ (Typed t bs)
  pub within : p ≤ length t
  pub begins : Begins (take p t)
  pub ends : p < length t → ¬ (Begins (take (suc p) t))

unfoldable pub records_outcome : ℕ → List ℕ → Reading Read → Outcome ℕ
records_outcome lent bs (refuses n p) = refusal 0 lent n p
records_outcome lent bs (reads r) =
    cond (leb (length bs) lent)
    (record { answer = gives (r.records ∷ length bs ∷ []); left = padded 0 lent bs })
    (refusal 0 lent 8 0)

pub data TypedCall (t : List ℕ) (lent : ℕ) (o : Outcome ℕ) : Type 0 where
  outside : (p : ℕ) → Outside t p → o ≡ refusal 0 lent 9 p → TypedCall t lent o
  inside : (bs : List ℕ) → Typed t bs → o ≡ records_outcome lent bs (query_read bs) → TypedCall t lent o
