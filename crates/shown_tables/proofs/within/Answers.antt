-- `within` meets its contract, by the test of the room.
use native.Mathlib.Omega.{arith}
use Rattle.shown_tables.proofs.Placing.{placed_past, placed_within}
use Rattle.shown_tables.proofs.within.Goals as goal

pub returns-then-room-end : goal.returns-then-room-end
returns-then-room-end c =
    (placed_past _ _ _ c.if-room-end.true, tt)

pub returns : goal.returns
returns c =
    let inside = c.if-room-end.false in
    (placed_within _ _ _ (omega arith), (c.requires, omega arith))
