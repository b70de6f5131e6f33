-- How an operand begins, by the reader's definition.
--     call_record c           the record of what is called
--     opened_word cs          the rest of a word, and the parenthesis behind it
--     called_part rd d cs r   .. then the operand of a call, with its record r
--     ListComes, CallComes   a list comes; the operand of a call
--     OpeningIs, Opens text before after made rd d def r
--                            what r says of the definition: an operand that is read whole; or a list comes, in so many
--                            parentheses less one; or the operand of a call, whose record is added
use Rattle.std.specs.Prelude.{ℕ, ◌≤◌, ◌≡◌, List, ◌++◌, length, drop, Result, Ok, Err}
use Rattle.grammar.specs.Words.{symbol, word, open_sign}
use Rattle.grammar.specs.Records.{record_qc, record_qd}
use Rattle.parsing.specs.declared.Ends.TheVariants.{WithList, WithCall}
use Rattle.parsing.specs.Reader.{Res, Reader, then, letters, read_word, Readers, Operand, operand, read_call}
use Rattle.numerals.specs.declared.Stuck.{Stuck}
use Rattle.recording.specs.Recorded.{Adds}
use Rattle.operands.specs.Going.{ReadsOperand}
use Rattle.openings.specs.declared.Callee.{Callee}
use Rattle.openings.specs.declared.Callee.TheVariants.{Count, Data}
use Rattle.openings.specs.declared.Opening as opening
use Rattle.openings.specs.declared.Opening.TheVariants as opening-is

abbrev pub call_record : Callee → List ℕ
call_record Count = record_qc
call_record Data = record_qd

abbrev pub opened_word : List ℕ → Reader (Unit {0})
opened_word cs t = then (letters cs t) (λ done. read_word word open_sign)

abbrev pub called_part : Readers → ℕ → List ℕ → List ℕ → Reader Operand
called_part rd d cs r t = then (letters cs t) (λ done. read_call rd d r)

pub record ListComes (text before after : List ℕ) (rd : Readers) (def : Res Operand) (from parens : ℕ) : Type 0 where
  pub means :
      def
      ≡ then (rd.expr parens WithList symbol (drop from text)) (λ w. operand w.made symbol)
  pub inside : from ≤ length text
  pub same : after ≡ before

pub record CallComes (text before after : List ℕ) (made : ℕ) (rd : Readers) (d : ℕ) (def : Res Operand) (from to : ℕ)
    : Type 0 where
  pub mark : List ℕ
  pub means :
      def
      ≡ then (rd.single d WithCall symbol (drop from text)) (λ w. operand (mark ++ w.made) symbol)
  pub inside : from ≤ length text
  pub added : Adds mark made before after to

unfoldable pub OpeningIs :
    (text before after : List ℕ) (made : ℕ) (rd : Readers) (d : ℕ) → Res Operand → Result opening.Opening Stuck → Type 0
OpeningIs text before after made rd d def (Ok (opening-is.Whole p)) = ReadsOperand text before after made def (Ok p)
OpeningIs text before after made rd d def (Ok (opening-is.List from parens)) =
    ListComes text before after rd def from parens
OpeningIs text before after made rd d def (Ok (opening-is.Call from to)) =
    CallComes text before after made rd d def from to
OpeningIs text before after made rd d def (Err s) = ReadsOperand text before after made def (Err s)

pub record Opens (text before after : List ℕ) (made : ℕ) (rd : Readers) (d : ℕ) (def : Res Operand)
    (r : Result opening.Opening Stuck) : Type 0 where
  pub opens : OpeningIs text before after made rd d def r
