-- The text of a record by itself (document 02, L1).
--     head_of r            what stands before its operands: the whole text, where it has none
--     between_of r         what stands between its two operands
--     tail_of r            what stands after its operands
--     Headed k            the fields of a record are in their ranges, and its literal is no node but a small one
use Rattle.std.specs.Prelude.{ℕ, List, [], ◌∷◌}
use Rattle.cells.specs.Cell.{held}
use Rattle.meaning.specs.Query.{Record, literal, empty, root, variable, sequence, letting, for, choice, function}
use Rattle.meaning.specs.Query.{counting, values, step}
use Rattle.grammar.specs.Words.{return_word}
use Rattle.grammar.specs.Written.{spaced, dollar, item_text, step_text, function_word, for_head, let_head, if_head}
use Rattle.grammar.specs.Written.{count_head, data_head, root_text, comma_text}
use Rattle.query_records.specs.declared.Record as Code
use Rattle.query_records.specs.Decoded.{record_of, SmallLiteral}
use Rattle.query_records.specs.Fields.{Ranged}

unfoldable pub head_of : Record → List ℕ
head_of (literal z) = item_text (held z)
head_of empty = 40 ∷ 41 ∷ []
head_of (root k) = root_text k
head_of (variable v) = dollar v
head_of sequence = []
head_of (letting v) = let_head v
head_of (for v) = for_head v
head_of choice = if_head
head_of (function f) = []
head_of counting = count_head
head_of values = data_head
head_of (step x t) = []

unfoldable pub between_of : Record → List ℕ
between_of (literal z) = []
between_of empty = []
between_of (root k) = []
between_of (variable v) = []
between_of sequence = comma_text
between_of (letting v) = spaced return_word
between_of (for v) = spaced return_word
between_of choice = []
between_of (function f) = spaced (function_word f)
between_of counting = []
between_of values = []
between_of (step x t) = []

unfoldable pub tail_of : Record → List ℕ
tail_of (literal z) = []
tail_of empty = []
tail_of (root k) = []
tail_of (variable v) = []
tail_of sequence = []
tail_of (letting v) = []
tail_of (for v) = []
tail_of choice = []
tail_of (function f) = []
tail_of counting = 41 ∷ []
tail_of values = 41 ∷ []
tail_of (step x t) = step_text x t

pub record Headed (k : Code.Record) : Type 0 where
  pub ranged : Ranged (record_of k)
  pub small : SmallLiteral k
