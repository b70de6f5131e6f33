-- `joining::join_part` meets its contract: the part joins as the whole table does.
use native.Mathlib.Omega.{arith}
use Rattle.laws.specs.Rows.{row}
use Rattle.tables.specs.Layout.{table_at, Inside}
use Rattle.tables.proofs.Promise.{owes_is}
use Rattle.joining.proofs.Joining.{part_inside, joined_part}
use Rattle.joining.proofs.join_part.Goals as goal

pub overflow_mul-s : goal.overflow_mul-s
unfolding Inside
overflow_mul-s c =
    let g = c.args in
    let n = c.requires.narrows in
    let inside = part_inside g.u.at g.u.rows g.u.width g.part.start g.part.end g.at n.ordered n.within
    c.requires.inside.0 in
    omega (arith, inside)

pub overflow_add-s : goal.overflow_add-s
unfolding Inside
overflow_add-s c =
    let g = c.args in
    let n = c.requires.narrows in
    let inside = part_inside g.u.at g.u.rows g.u.width g.part.start g.part.end g.at n.ordered n.within
    c.requires.inside.0 in
    omega (arith, inside)

pub overflow_sub-s : goal.overflow_sub-s
overflow_sub-s c =
    c.requires.narrows.ordered

pub join_row-requires : goal.join_row-requires
unfolding Inside
join_row-requires c =
    let g = c.args in
    let n = c.requires.narrows in
    let inside = part_inside g.u.at g.u.rows g.u.width g.part.start g.part.end g.at n.ordered n.within
    c.requires.inside.0 in
    record { w_bound = c.requires.w_bound; inside = (inside, omega arith, omega arith) }

pub returns : goal.returns
unfolding table_at
returns c =
    let g = c.args in
    owes_is _ _ _ _ _ _ (joined_part _ _ _ _ (row g.work.now g.a g.w) g.c c.requires.narrows)
    c.join_row.ensures
