-- Tables laid end to end in lent cells (document 01, 'Room'), and the one promise of every operator.
--     table_at xs s         the table that stands where s says
--     Inside top s         it stands whole below cell `top`
--     Wide w t             every row of t has width w
--     Written ..           the rows that an operator made are laid exactly at `at`, within the room
--     Passes ..            the rows that it made pass the room
--     Failed ..            it made none: it fails
--     Owes room at w made entry exit answer
--         what an operator answers and leaves, where `made` is what its definition makes: one of these three
use Rattle.std.specs.Prelude.{ℕ, ◌+◌, ◌*◌, ◌≤◌, ◌<◌, ◌≡◌, List, [], ◌∷◌, ℤ, length, Result, Ok, Err}
use Rattle.laws.specs.Rows.{rows_at, laid, flat}
use Rattle.laws.specs.Attempt.{Attempt, fails, gives}
use Rattle.meaning.specs.Operators.{Table}
use Rattle.tables.specs.declared.Stand.{Stand}
use Rattle.tables.specs.declared.Unlaid.{Unlaid}
use Rattle.tables.specs.declared.Unlaid.TheVariants.{Full, Fails}

unfoldable pub table_at : List ℤ → Stand → Table
table_at xs s = rows_at xs s.at s.rows s.width

unfoldable pub Inside : ℕ → Stand → Type 0
Inside top s = s.at + s.rows * s.width ≤ top

-- every row of a table has width w
unfoldable pub Wide : ℕ → Table → Type 0
Wide w [] = Unit {0}
Wide w (r ∷ t) = (length r ≡ w) × Wide w t

-- the rows of a table that was made: as many as answered, within the room, laid exactly
pub record Written (room at w n : ℕ) (made : Attempt Table) (entry exit : List ℤ) : Type 0 where
  pub table : Table
  pub made_is : made ≡ gives table
  pub rows_are : length table ≡ n
  pub wide : Wide w table
  pub fits : at + n * w ≤ room
  pub cells_are : exit ≡ laid entry at (flat table)

-- the table that was made passes the room; the cells stay as many
pub record Passes (room at w : ℕ) (made : Attempt Table) (entry exit : List ℤ) : Type 0 where
  pub table : Table
  pub made_is : made ≡ gives table
  pub past : room < at + length table * w
  pub long : length exit ≡ length entry

pub record Failed (made : Attempt Table) (entry exit : List ℤ) : Type 0 where
  pub made_is : made ≡ fails
  pub long : length exit ≡ length entry

unfoldable pub Owes : (room at w : ℕ) → Attempt Table → List ℤ → List ℤ → Result ℕ Unlaid → Type 0
Owes room at w made entry exit (Ok n) = Written room at w n made entry exit
Owes room at w made entry exit (Err Full) = Passes room at w made entry exit
Owes room at w made entry exit (Err Fails) = Failed made entry exit
