-- What is put in the array and moved in it, byte by byte.
--     Puts at part n before after          the first n bytes of `part` stand from `at` on, all else is as it was
--     Moves from by last before after      the bytes from `from` up to `last` stand `by` further on; what is below
--                                          `from` is as it was
use Rattle.std.specs.Prelude.{ℕ, ◌+◌, ◌≤◌, ◌<◌, ◌≡◌, List, get_or}

pub record Puts (at : ℕ) (part : List ℕ) (n : ℕ) (before after : List ℕ) : Type 0 where
  pub put : (j : ℕ) → j < n → get_or after (at + j) 0 ≡ get_or part j 0
  pub below : (j : ℕ) → j < at → get_or after j 0 ≡ get_or before j 0
  pub above : (j : ℕ) → at + n ≤ j → get_or after j 0 ≡ get_or before j 0

pub record Moves (from by last : ℕ) (before after : List ℕ) : Type 0 where
  pub moved : (j : ℕ) → from ≤ j → j < last → get_or after (j + by) 0 ≡ get_or before j 0
  pub below : (j : ℕ) → j < from → get_or after j 0 ≡ get_or before j 0
