-- A law on the cells that count.
--     room_within     the room is within the lent cells and 65,536
use Prim.Native.Nat.{ℕ, ◌≤◌}
use native.Mathlib.Omega.{arith}
use Rattle.meaning.specs.Calls.{room}

pub room_within : (lent : ℕ) → (room lent ≤ lent) × (room lent ≤ 65536)
unfolding room
room_within lent = (omega arith, omega arith)
