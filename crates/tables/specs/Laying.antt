-- Rows that are laid behind each other by a loop, and attempts that are tested before one is laid.
--     succeeds o         an attempt does not fail
--     Settled o          what an attempt that does not fail gives
--     Decided o b        an attempt that gives rows, or fails, as the test b says
--     Laying room at w f whole entry left work top n
--         of `whole`, which does f for each member of a list, the n rows up to `top` are laid; `left` is still to do:
--         what is left to do gives what the whole gives
use Rattle.std.specs.Prelude.{ℕ, ◌+◌, ◌*◌, ◌≤◌, ◌≡◌, List, ◌++◌, Bool, true, false, ℤ, length}
use Rattle.laws.specs.Rows.{laid, flat}
use Rattle.laws.specs.Attempt.{Attempt, fails, gives, attempt, each}
use Rattle.meaning.specs.Operators.{Table}
use Rattle.tables.specs.Layout.{Wide}

unfoldable pub succeeds : {A : Type 0} → Attempt A → Bool
succeeds fails = false
succeeds (gives a) = true

unfoldable pub Settled : Attempt Table → Type 0
Settled o = (t : Table) × (o ≡ gives t)

abbrev pub Decided : Attempt Table → Bool → Type 0
Decided o true = Settled o
Decided o false = o ≡ fails

pub record Laying {A : Type 0} (room at w : ℕ) (f : A → Attempt Table) (whole : Attempt Table) (entry : List ℤ)
    (left : List A) (work : List ℤ) (top n : ℕ) : Type 0 where
  pub done : Table
  pub wide : Wide w done
  pub rows_are : length done ≡ n
  pub top_is : top ≡ at + n * w
  pub fits : top ≤ room
  pub cells_are : work ≡ laid entry at (flat done)
  pub whole_is : whole ≡ attempt (each f left) (λ zs. gives (done ++ zs))
