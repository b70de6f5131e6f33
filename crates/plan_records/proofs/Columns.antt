-- Columns that stand in the bytes.
--     columns_length     there are n of them
use Prim.Native.Nat.{ℕ, ◌+◌, ◌≤◌}
use mathlib.Core.Path.{◌≡◌}
use mathlib.Core.List.{List}
use native.Mathlib.Omega.{arith}
use lib.ListN.{length, length-take, length-drop}
use Rattle.meaning.specs.Plan.{columns_at}

pub columns_length : (bs : List ℕ) (from n : ℕ) → from + n ≤ length bs → length (columns_at bs from n) ≡ n
unfolding columns_at
columns_length bs from n h = simp (length-take, length-drop) (omega arith)
