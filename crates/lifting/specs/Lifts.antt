-- What lifting leaves (document 01, 'Translation': variables are lifted only where free, by rising number).
--     tables_of ts            the table of each variable, from the row of eight
--     HoldsTables ts e       the row has the tables e of the variables 0 to 7
--     flagged fs n           the variables below n whose flag is set, by rising number
--     Lifts ts m cs vs x p y r    the variables vs are lifted: their joins with table m and their projections on cs are
--                            written, and r has the variables' tables after them
use Rattle.std.specs.Prelude.{ℕ, ◌<◌, ◌≡◌, List, Bool, false, get_or}
use Rattle.laws.specs.Lists.{filter, below}
use Rattle.meaning.specs.Translation.{Tables, lifts, lifted}
use Rattle.adding.specs.declared.Pen.{Pen}
use Rattle.lifting.specs.declared.Lifted.{Lifted}
use Rattle.adding.specs.Ruled.{Wrote}

abbrev pub tables_of : List ℕ → Tables
tables_of ts v = get_or ts v 0

abbrev pub HoldsTables : List ℕ → Tables → Type 0
HoldsTables ts e = (v : ℕ) → v < 8 → get_or ts v 0 ≡ e v

unfoldable pub flagged : List Bool → ℕ → List ℕ
flagged fs n = filter (λ v. get_or fs v false) (below n)

pub record Lifts
    (ts : List ℕ) (m : ℕ) (cs vs : List ℕ) (x : List ℕ) (p : Pen) (y : List ℕ) (r : Lifted) : Type 0 where
  pub wrote : Wrote (lifts (tables_of ts) m cs p.operators vs) x p y r.pen
  pub holds : HoldsTables r.tables (lifted (tables_of ts) p.operators vs)
