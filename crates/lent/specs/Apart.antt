-- Cells that are copied (document 01, 'Room').
--     Apart from n to         n cells from `from` on can be copied to `to`, from the first to the last
use Rattle.std.specs.Prelude.{ℕ, ◌+◌, ◌≤◌, ◌⊎◌}

abbrev pub Apart : ℕ → ℕ → ℕ → Type 0
Apart from n to = (to ≤ from) ⊎ (from + n ≤ to)
