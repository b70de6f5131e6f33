-- `place_of` meets its contract, test by test.
use native.Mathlib.Omega.{arith}
use native.Mathlib.Nat.{mul-le-mul}
use Prim.Native.Nat.{◌≤◌}
use Rattle.shown_tables.proofs.Placing.{none_answered, past_end, last_place, many_rows, past_start, before_place}
use Rattle.shown_tables.proofs.place_of.Goals as goal

pub returns-in_default : goal.returns-in_default
returns-in_default c =
    (none_answered _ _ _ _ c.in_default.is, tt)

pub returns-then-tables : goal.returns-then-tables
returns-then-tables c =
    (past_end _ _ _ _ c.in-Ok.is c.if-tables.true, tt)

pub returns-then-width-eq3 : goal.returns-then-width-eq3
returns-then-width-eq3 c = (
  last_place _ _ _ _ c.in-Ok.is (omega (arith, c.if-tables.false)) _ c.if-width-eq3.true
      c.within.ensures.0,
  c.within.ensures.1,
)

pub returns-then-room-tables : goal.returns-then-room-tables
returns-then-room-tables c =
    (many_rows _ _ _ _ c.in-Ok.is (omega (arith, c.if-tables.false)) c.if-width-eq3.false c.if-room-tables.true, tt)

pub overflow_mul-cells : goal.overflow_mul-cells
overflow_mul-cells c =
    let few : c.in-Ok.tables.rows ≤ 65536 = omega (arith, c.if-room-tables.false, c.requires.1) in
    omega (arith, mul-le-mul few c.requires.0)

pub returns-then-tables-cells : goal.returns-then-tables-cells
returns-then-tables-cells c = (
  past_start _ _ _ _ c.in-Ok.is (omega (arith, c.if-tables.false)) c.if-width-eq3.false
      (omega (arith, c.if-room-tables.false)) c.if-tables-cells.true,
  tt,
)

pub returns : goal.returns
returns c = (
  before_place _ _ _ _ c.in-Ok.is (omega (arith, c.if-tables.false)) c.if-width-eq3.false
      (omega (arith, c.if-room-tables.false)) _ (omega (arith, c.if-tables-cells.false)) c.within-2.ensures.0,
  c.within-2.ensures.1,
)
