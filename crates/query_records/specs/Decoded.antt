-- What the answers of the code stand for in document 01 ('Query records').
--     record_of r         a record of the code as a record of the definitions
--     reading_of r        what reading at an offset found: the record and the offset after it, or failing
--     SmallLiteral, Smalls    the literal of a record has a cell far from the greatest number
--     Means r a          what reading found is the attempt a of the definitions, and its literal is small
--     number_field f      what stands in a field, or failing
--     operands_of r       what follows a record
use Rattle.std.specs.Prelude.{ℕ, ◌≡◌, Option, Some, None}
use Rattle.cells.specs.Cell.{cell_of}
use Rattle.cells.specs.Small.{Small}
use Rattle.laws.specs.Attempt.{Attempt, fails, gives, tried}
use Rattle.meaning.specs.Query as Query
use Rattle.query_records.specs.declared.Decoded.{Decoded}
use Rattle.query_records.specs.declared.Record.{Record}
use Rattle.query_records.specs.declared.Operands.{Operands}

unfoldable pub record_of : Record → Query.Record
record_of (Record.Literal i) = Query.literal (cell_of i)
record_of Record.Empty = Query.empty
record_of (Record.Root k) = Query.root k
record_of (Record.Variable v) = Query.variable v
record_of Record.Sequence = Query.sequence
record_of (Record.Let v) = Query.letting v
record_of (Record.For v) = Query.for v
record_of Record.If = Query.choice
record_of (Record.Apply f) = Query.function f
record_of Record.Count = Query.counting
record_of Record.Data = Query.values
record_of (Record.Step x t) = Query.step x t

unfoldable pub reading_of : Option Decoded → Attempt (Query.Record × ℕ)
reading_of (Some d) = gives (record_of d.kind, d.next)
reading_of None = fails

-- what the cell of a literal asks: an integer and a boolean keep it, and no literal is a node
abbrev pub SmallLiteral : Record → Type 0
SmallLiteral (Record.Literal i) = Small i
SmallLiteral Record.Empty = Unit {0}
SmallLiteral (Record.Root k) = Unit {0}
SmallLiteral (Record.Variable v) = Unit {0}
SmallLiteral Record.Sequence = Unit {0}
SmallLiteral (Record.Let v) = Unit {0}
SmallLiteral (Record.For v) = Unit {0}
SmallLiteral Record.If = Unit {0}
SmallLiteral (Record.Apply f) = Unit {0}
SmallLiteral Record.Count = Unit {0}
SmallLiteral Record.Data = Unit {0}
SmallLiteral (Record.Step x t) = Unit {0}

abbrev pub Smalls : Option Decoded → Type 0
Smalls (Some d) = SmallLiteral d.kind
Smalls None = Unit {0}

-- what reading promises
pub record Means (r : Option Decoded) (a : Attempt (Query.Record × ℕ)) : Type 0 where
  pub means : reading_of r ≡ a
  pub small : Smalls r

unfoldable pub operands_of : Query.Record → Operands
operands_of (Query.literal z) = Operands.None
operands_of Query.empty = Operands.None
operands_of (Query.root k) = Operands.None
operands_of (Query.variable v) = Operands.Variable v
operands_of Query.sequence = Operands.Two
operands_of (Query.letting v) = Operands.Binding v
operands_of (Query.for v) = Operands.Binding v
operands_of Query.choice = Operands.Three
operands_of (Query.function f) = Operands.Two
operands_of Query.counting = Operands.One
operands_of Query.values = Operands.One
operands_of (Query.step x t) = Operands.One

abbrev pub number_field : Option ℕ → Attempt ℕ
number_field = tried
