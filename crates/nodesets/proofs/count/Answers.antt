-- `count` meets its contract. The invariant: n is the number of marked ranks below v.
use Prim.Native.Nat.{◌+◌, zero-le}
use mathlib.Core.Path.{◌≡◌, sym, ap}
use native.Mathlib.Omega.{arith}
use lib.ListN.{length}
use Rattle.nodesets.proofs.Ranks.{ranks_none, length_ranks, length_ranks_more}
use Rattle.nodesets.proofs.count.Goals as goal

pub loop-v-init : goal.loop-v-init
loop-v-init c = (zero-le, sym (ap length (ranks_none _)))

pub overflow_add-n : goal.overflow_add-n
overflow_add-n c =
    let loop = c.loop-v in
    let marks = c.args.marks.now in
    omega (arith, length_ranks (loop.v + 1) marks, length_ranks_more loop.v marks, c.well_formed.0.0)

pub loop-v-preserved : goal.loop-v-preserved
loop-v-preserved c =
    let loop = c.loop-v in
    (omega arith, omega (arith, length_ranks_more loop.v c.args.marks.now))

pub returns : goal.returns
returns c =
    let end : c.loop-v.v ≡ c.args.rows = omega arith in
    rw end at c.loop-v.invariant.1
