-- `gathering::settles` meets its contract. The invariant: the turns from row i on succeed exactly where all do.
use Prim.Native.Nat.{◌-◌, ◌<◌}
use mathlib.Core.Path.{sym, ◌∙◌}
use native.Mathlib.Omega.{arith}
use lib.ListN.{length}
use Rattle.meaning.specs.World.{world_of}
use Rattle.tables.specs.Layout.{table_at}
use Rattle.gathering.specs.declared.Gather.TheVariants.{Truth}
use Rattle.tables.proofs.Reading.{length_table}
use Rattle.gathering.proofs.Passing.{tests_first, tests_fails, tests_more, tests_end}
use Rattle.gathering.proofs.settles.Goals as goal

pub loop-i-init : goal.loop-i-init
loop-i-init c =
    λ d. tests_first Truth (world_of d) _

pub returns-then-not-settled : goal.returns-then-not-settled
returns-then-not-settled c =
    let here : c.loop-i.i < length (table_at c.args.work.now c.args.s) = omega (arith, length_table c.args.work.now c.args.s, c.loop-i-test.true) in
    let t = table_at c.args.work.now c.args.s in
    λ d.
    sym (tests_fails Truth (world_of d) t c.loop-i.i here
    (sym (c.settled.ensures d) ∙ c.if-not-settled.true))
    ∙ c.loop-i.invariant d

pub loop-i-preserved : goal.loop-i-preserved
loop-i-preserved c =
    let here : c.loop-i.i < length (table_at c.args.work.now c.args.s) = omega (arith, length_table c.args.work.now c.args.s, c.loop-i-test.true) in
    let t = table_at c.args.work.now c.args.s in
    λ d.
    sym (tests_more Truth (world_of d) t c.loop-i.i here
    (sym (c.settled.ensures d) ∙ c.if-not-settled.false))
    ∙ c.loop-i.invariant d

pub returns : goal.returns
returns c =
    let t = table_at c.args.work.now c.args.s in
    λ d.
    sym (tests_end Truth (world_of d) t c.loop-i.i
    (omega (arith, length_table c.args.work.now c.args.s)))
    ∙ c.loop-i.invariant d
