-- `numbering::number` meets its contract: what follows from the room, then what `arrange` and `lay` leave.
use Prim.Native.Nat.{◌+◌, ◌*◌, ◌≤◌, ◌<◌}
use Rattle.tables.specs.Layout.{Inside}
use Rattle.numbering.proofs.Sorted.{column_p, numbers_within, number_within}
use native.Mathlib.Omega.{arith}
use Rattle.row_order.specs.Order.{Low}
use Rattle.numbering.proofs.Owed.{positive, owed_none, owed_full, owed_laid, low, product, few}
use borrow.Author.Rules.{rules}
use Rattle.numbering.proofs.number.Goals as goal

pub returns-then-n-eq0 : goal.returns-then-n-eq0
returns-then-n-eq0 c =
    let a = c.args in
    owed_none _ _ _ a.keys _ _ c.if-n-eq0.true (omega arith)

pub overflow_add-s : goal.overflow_add-s
overflow_add-s c =
    let some-row : 0 < c.args.s.rows = positive _ c.if-n-eq0.false in
    let low-here : Low c.args.s = let f = c.requires in
    low _ _ _ f.key_columns _ _ f.inside.0 f.inside.1 f.inside.3 some-row in
    omega (arith, low-here)

pub overflow_mul-n : goal.overflow_mul-n
overflow_mul-n c =
    let some-row : 0 < c.args.s.rows = positive _ c.if-n-eq0.false in
    let f = c.requires in
    omega (arith, product _ _ _ f.key_columns _ _ f.inside.0 f.inside.1 f.inside.3 some-row)

pub returns-then-room-at : goal.returns-then-room-at
returns-then-room-at c =
    let a = c.args in
    owed_full _ _ _ a.keys _ _ (omega arith)

pub arrange-requires : goal.arrange-requires
arrange-requires c =
    let some-row : 0 < c.args.s.rows = positive _ c.if-n-eq0.false in
    let low-here : Low c.args.s = let f = c.requires in
    low _ _ _ f.key_columns _ _ f.inside.0 f.inside.1 f.inside.3 some-row in
    let few-here : c.args.s.rows ≤ 32768 = let f = c.requires in
    few _ _ _ f.key_columns _ _ f.inside.0 f.inside.1 f.inside.3 c.if-room-at.false in
    (low-here, some-row, few-here, omega arith, omega arith)

pub lay-requires : goal.lay-requires
unfolding Inside
lay-requires c =
    let some-row : 0 < c.args.s.rows = positive _ c.if-n-eq0.false in
    let low-here : Low c.args.s = let f = c.requires in
    low _ _ _ f.key_columns _ _ f.inside.0 f.inside.1 f.inside.3 some-row in
    let few-here : c.args.s.rows ≤ 32768 = let f = c.requires in
    few _ _ _ f.key_columns _ _ f.inside.0 f.inside.1 f.inside.3 c.if-room-at.false in
    let room-here : let a = c.args in a.at + a.s.rows * (a.s.width + 1) ≤ a.room =
    omega (arith, c.if-room-at.false, c.requires.inside) in
    let f = c.requires in
    let few = few-here in
    record {
      low = low-here;
      some_row = some-row;
      few = few;
      inside = f.inside.0;
      room = omega (arith, room-here, f.inside.2);
      numbers = omega (arith, c.arrange.auto.order, f);
      within =
          number_within _ _ (omega (arith, c.arrange.auto.order, f))
          (numbers_within _ _ _ _ f.key_columns _ c.arrange.ensures);
      column = column_p _ _ _ f.key_columns;
    }

pub returns : goal.returns
unfolding Inside
returns c =
    let room-here : let a = c.args in a.at + a.s.rows * (a.s.width + 1) ≤ a.room =
    omega (arith, c.if-room-at.false, c.requires.inside) in
    owed_laid _ _ _ c.args.keys _ _ c.requires.key_columns _ _ (omega (arith, c.requires)) room-here
    c.arrange.ensures
    c.lay.ensures
