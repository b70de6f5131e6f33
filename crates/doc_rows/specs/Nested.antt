-- What a sound catalogue gives of sizes and levels (document 01, 'Catalogue rows'; document 001, Table 1). `size r` and
-- `level r` are those of the row of rank r.
--     Nested n size level    of n rows
--       inside               the rows that a row's size covers are deeper than the row
--       ends                 the row after those is not deeper
--       rises                a level is at most one more than the level of the row before
--       fits                 the rows that a size covers are there
--       first                row 0 is at level 0
--       shallow              no level is above 63
use Rattle.std.specs.Prelude.{ℕ, ◌+◌, ◌<◌, ◌≤◌, ◌≡◌}

-- What a sound catalogue of n rows gives, over size and level of a rank.
pub record Nested (n : ℕ) (size level : ℕ → ℕ) : Type 0 where
  pub inside : (c v : ℕ) → c < n → c < v → v ≤ c + size c → level c < level v
  pub ends : (c : ℕ) → c < n → c + size c + 1 < n → level (c + size c + 1) ≤ level c
  pub rises : (v : ℕ) → v + 1 < n → level (v + 1) ≤ level v + 1
  pub fits : (v : ℕ) → v < n → v + size v < n
  pub first : 0 < n → level 0 ≡ 0
  pub shallow : (v : ℕ) → v < n → level v ≤ 63
