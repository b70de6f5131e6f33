-- `deeper` meets its contract. The invariant of its loop: the rows between r and v are counted, and the count from v on
-- makes up the whole.
use native.Mathlib.Omega.{arith}
use Rattle.doc_rows.specs.Fields.{level_at}
use Rattle.catalogue.proofs.Turns.{count_end, count_stop, count_on}
use Rattle.catalogue.proofs.deeper.Goals as goal

pub level-l-requires : goal.level-l-requires
level-l-requires c =
    omega arith

pub loop-v-init : goal.loop-v-init
loop-v-init c =
    (omega arith, omega arith)

pub level-requires : goal.level-requires
level-requires c =
    omega arith

pub overflow_add-result : goal.overflow_add-result
overflow_add-result c =
    omega arith

pub overflow_sub-result : goal.overflow_sub-result
overflow_sub-result c =
    omega arith

pub returns-then-level-l : goal.returns-then-level-l
returns-then-level-l c =
    let l = level_at c.args.doc.now c.args.r in
    omega (arith, count_stop c.args.doc.now c.args.rows l c.loop-v.v (omega arith) (omega arith))

pub loop-v-preserved : goal.loop-v-preserved
loop-v-preserved c =
    let l = level_at c.args.doc.now c.args.r in
    let on = count_on c.args.doc.now c.args.rows l c.loop-v.v (omega arith) (omega arith) in
    (omega arith, omega arith)

pub returns : goal.returns
returns c =
    omega (arith, count_end c.args.doc.now c.args.rows (level_at c.args.doc.now c.args.r) c.loop-v.v (omega arith))
