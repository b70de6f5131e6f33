-- What `root` answers, in the words of the definitions.
--     found f     the root that was asked for, or that there is none
use Rattle.std.specs.Prelude.{ℕ, Option, Some, None}
use Rattle.cells.specs.declared.Rank.{Rank}
use Rattle.laws.specs.Attempt.{Attempt, fails, gives}

unfoldable pub found : Option Rank → Attempt ℕ
found (Some r) = gives r.0
found None = fails
