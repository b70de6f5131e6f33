-- What `read_row` answers, in the words of the definitions.
--     level_of a     the level of a row that is sound
use Rattle.std.specs.Prelude.{ℕ, Option, Some, None}
use Rattle.laws.specs.Attempt.{Attempt, fails, gives}

unfoldable pub level_of : Option ℕ → Attempt ℕ
level_of (Some l) = gives l
level_of None = fails
