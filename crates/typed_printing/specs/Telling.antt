-- What is printed of a typed query, and what is left in all that was lent (document 02, L1).
--     RefusedText ..     the reader refuses the text: the line of its refusal; zeros in the bytes lent for the records,
--                        and nothing else is touched
--     RecordsText ..     the text is read as record bytes bs: they stand with zeros after them, and all else is what
--                        `chartask` tells of bs
--     TellsTyped ..      one of the two
use Rattle.std.specs.Prelude.{ℕ, ◌≡◌, List, [], ◌∷◌, ℤ, length, replicate}
use Rattle.laws.specs.Rows.{padded}
use Rattle.meaning.specs.Calls.{gives, refusal}
use Rattle.lines.specs.Text.{refused_line}
use Rattle.lines.specs.Placed.{Put}
use Rattle.grammar.specs.Typed.{TypedCall}
use Rattle.printing.specs.Engines.{TellsText}

-- primed: at exit
module _ (typed doc query' plan plan' : List ℕ) (work work' kept kept' : List ℤ) (text text' : List ℕ) (n : ℕ) where
  pub record RefusedText : Type 0 where
    pub number : ℕ
    pub place : ℕ
    pub call : TypedCall typed 1024 (refusal 0 1024 number place)
    pub query_left : query' ≡ replicate 1024 0
    pub plan_left : plan' ≡ plan
    pub work_left : work' ≡ work
    pub kept_left : kept' ≡ kept
    pub put : Put text text' 0 (refused_line number place) n

  pub record RecordsText : Type 0 where
    pub records : ℕ
    pub bytes : List ℕ
    pub call : TypedCall typed 1024
        (record { answer = gives (records ∷ length bytes ∷ []); left = padded 0 1024 bytes })
    pub query_left : query' ≡ padded 0 1024 bytes
    pub tells : TellsText bytes doc plan' work work' kept kept' text text' n

  pub data TellsTyped : Type 0 where
    refused_text : RefusedText → TellsTyped
    records_text : RecordsText → TellsTyped
