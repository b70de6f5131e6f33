-- Bytes put into a lent slice, one after another.
--     Put entry exit at bytes end     `bytes` stand from `at` up to `end`, and nothing else is changed
--     room_for t                       bytes that are enough for all lines
use Rattle.std.specs.Prelude.{ℕ, ◌+◌, ◌*◌, ◌≤◌, ◌≡◌, List, length}
use Rattle.laws.specs.Rows.{laid}
use Rattle.verdicts.specs.Compared.{Told, Gave, Refused}

pub record Put (entry exit : List ℕ) (at : ℕ) (bytes : List ℕ) (end : ℕ) : Type 0 where
  pub written : exit ≡ laid entry at bytes
  pub ended : end ≡ at + length bytes
  pub fits : end ≤ length entry

abbrev pub room_for : Told → ℕ
room_for (Gave n) = 32 * n + 128
room_for (Refused n p) = 128
