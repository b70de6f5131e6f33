-- `read` meets its contract: the mark picks the arm, each arm's function means that arm of the definition.
use mathlib.Core.Bool.{not}
use mathlib.Core.Path.{ap, refl}
use Prim.Native.Nat.{◌+◌, ◌≤◌}
use native.Mathlib.Omega.{arith}
use borrow.Author.Rules.{rules}
use lib.ListN.{length}
use Rattle.meaning.specs.Plan.{operator_of}
use Rattle.meaning.specs.Plan.{mark_rt, mark_ra, mark_rp, mark_ru, mark_rd, mark_rs, mark_rj, mark_rn, mark_rf, mark_rc}
use Rattle.meaning.specs.Plan.{mark_re, mark_rk, mark_rx, mark_ro}
use Rattle.plan_records.specs.Arms as Arms
use Rattle.plan_records.specs.Decoded as Code
use Rattle.plan_records.specs.declared.Operator.TheVariants as Operator
use Rattle.std.specs.Prelude.{None}
use Rattle.meaning.specs.Plan.{RU, RD, RS, RC, RK}
use Rattle.plan_records.proofs.Sized.{pair_room, pair_cut, pair_reads}
use Rattle.plan_records.proofs.Sized.{there}
use Rattle.plan_records.proofs.Arms.{of_mark, mark_cut, mark_gap, mark_none}
use Rattle.plan_records.proofs.read.Goals as goal

pub returns-then-not-fits : goal.returns-then-not-fits
returns-then-not-fits c =
    let a = c.args in
    let f = c.fits in
    mark_cut a.plan.now a.at f.result f.ensures (ap not c.if-not-fits.true)

pub word2-mark-requires : goal.word2-mark-requires
word2-mark-requires c =
    let room : c.args.at + 2 ≤ length c.args.plan.now = let a = c.args in
    let f = c.fits in
    there a.plan.now a.at 2 f.result f.ensures (ap not c.if-not-fits.false) in
    omega (arith, room)

pub returns-in-21076 : goal.returns-in-21076
unfolding operator_of Arms.one
returns-in-21076 c =
    let a = c.args in
    let m = c.word2-mark in
    of_mark a.plan.now a.at c.one.result m.result mark_rt
    m.ensures.0 c.in-21076.is c.one.ensures

pub returns-in-21057 : goal.returns-in-21057
unfolding operator_of Arms.attach
returns-in-21057 c =
    let a = c.args in
    let m = c.word2-mark in
    of_mark a.plan.now a.at c.attach.result m.result mark_ra
    m.ensures.0 c.in-21057.is c.attach.ensures

pub returns-in-21072 : goal.returns-in-21072
unfolding operator_of Arms.project
returns-in-21072 c =
    let a = c.args in
    let m = c.word2-mark in
    of_mark a.plan.now a.at c.project.result m.result mark_rp
    m.ensures.0 c.in-21072.is c.project.ensures

pub returns-in-21066 : goal.returns-in-21066
unfolding operator_of Arms.join
returns-in-21066 c =
    let a = c.args in
    let m = c.word2-mark in
    of_mark a.plan.now a.at c.join.result m.result mark_rj
    m.ensures.0 c.in-21066.is c.join.ensures

pub returns-in-21070 : goal.returns-in-21070
unfolding operator_of Arms.number
returns-in-21070 c =
    let a = c.args in
    let m = c.word2-mark in
    of_mark a.plan.now a.at c.number.result m.result mark_rn
    m.ensures.0 c.in-21070.is c.number.ensures

pub returns-in-21062 : goal.returns-in-21062
unfolding operator_of Arms.function
returns-in-21062 c =
    let a = c.args in
    let m = c.word2-mark in
    of_mark a.plan.now a.at c.function.result m.result mark_rf
    m.ensures.0 c.in-21062.is c.function.ensures

pub returns-in-21061 : goal.returns-in-21061
unfolding operator_of Arms.truths
returns-in-21061 c =
    let a = c.args in
    let m = c.word2-mark in
    of_mark a.plan.now a.at c.truths.result m.result mark_re
    m.ensures.0 c.in-21061.is c.truths.ensures

pub returns-in-21080 : goal.returns-in-21080
unfolding operator_of Arms.step
returns-in-21080 c =
    let a = c.args in
    let m = c.word2-mark in
    of_mark a.plan.now a.at c.step.result m.result mark_rx
    m.ensures.0 c.in-21080.is c.step.ensures

pub returns-in-21071 : goal.returns-in-21071
unfolding operator_of Arms.root
returns-in-21071 c =
    let a = c.args in
    let m = c.word2-mark in
    of_mark a.plan.now a.at c.root.result m.result mark_ro
    m.ensures.0 c.in-21071.is c.root.ensures

pub returns-in-0-to-21056 : goal.returns-in-0-to-21056
returns-in-0-to-21056 c =
    let a = c.args in
    let m = c.word2-mark in
    mark_gap a.plan.now a.at m.result m.ensures.0 (search rules)

pub returns-in-0-to-21056-2 : goal.returns-in-0-to-21056-2
returns-in-0-to-21056-2 c =
    let a = c.args in
    let m = c.word2-mark in
    mark_none a.plan.now a.at m.result m.ensures.0 (search rules)

pub overflow_add-at : goal.overflow_add-at
unfolding Arms.two_tables
overflow_add-at c =
    let a = c.args in
    let x = c.two_tables in
    let p = c.in_ok-t-in-21077 in
    omega (arith, pair_room a.plan.now a.at 6 RU _ _ x.result x.ensures (p.t, p.u) p.was)

pub returns-in_err-t-in-21077 : goal.returns-in_err-t-in-21077
unfolding operator_of Arms.union Arms.two_tables Code.operator_of Code.ColumnsStand
returns-in_err-t-in-21077 c =
    let a = c.args in
    let m = c.word2-mark in
    let x = c.two_tables in
    rw c.from_residual.ensures
    (of_mark a.plan.now a.at None m.result mark_ru m.ensures.0 c.in-21077.is
    (pair_cut a.plan.now a.at 6 RU _ _ x.result x.ensures c.in_err-t-in-21077.was))

pub returns-in_ok-t-in-21077 : goal.returns-in_ok-t-in-21077
unfolding operator_of Arms.union Arms.two_tables Code.operator_of Code.ColumnsStand
returns-in_ok-t-in-21077 c =
    let a = c.args in
    let m = c.word2-mark in
    let x = c.two_tables in
    let p = c.in_ok-t-in-21077 in
    let s = c.sound in
    of_mark a.plan.now a.at s.result m.result mark_ru m.ensures.0 c.in-21077.is
    (pair_reads a.plan.now a.at 6 RU _ _ x.result x.ensures (p.t, p.u) p.was s.result
    (Operator.Union p.t p.u) s.ensures tt refl)

pub overflow_add-at-in-21060 : goal.overflow_add-at-in-21060
unfolding Arms.two_tables
overflow_add-at-in-21060 c =
    let a = c.args in
    let x = c.two_tables-in-21060 in
    let p = c.in_ok-t-in-21060 in
    omega (arith, pair_room a.plan.now a.at 6 RD _ _ x.result x.ensures (p.t, p.u) p.was)

pub returns-in_err-t-in-21060 : goal.returns-in_err-t-in-21060
unfolding operator_of Arms.minus Arms.two_tables Code.operator_of Code.ColumnsStand
returns-in_err-t-in-21060 c =
    let a = c.args in
    let m = c.word2-mark in
    let x = c.two_tables-in-21060 in
    rw c.from_residual-in_err-t-in-21060.ensures
    (of_mark a.plan.now a.at None m.result mark_rd m.ensures.0 c.in-21060.is
    (pair_cut a.plan.now a.at 6 RD _ _ x.result x.ensures c.in_err-t-in-21060.was))

pub returns-in_ok-t-in-21060 : goal.returns-in_ok-t-in-21060
unfolding operator_of Arms.minus Arms.two_tables Code.operator_of Code.ColumnsStand
returns-in_ok-t-in-21060 c =
    let a = c.args in
    let m = c.word2-mark in
    let x = c.two_tables-in-21060 in
    let p = c.in_ok-t-in-21060 in
    let s = c.sound-in-21060 in
    of_mark a.plan.now a.at s.result m.result mark_rd m.ensures.0 c.in-21060.is
    (pair_reads a.plan.now a.at 6 RD _ _ x.result x.ensures (p.t, p.u) p.was s.result
    (Operator.Minus p.t p.u) s.ensures tt refl)

pub overflow_add-at-in-21075 : goal.overflow_add-at-in-21075
unfolding Arms.column
overflow_add-at-in-21075 c =
    let a = c.args in
    let x = c.column in
    let p = c.in_ok-t-in-21075 in
    omega (arith, pair_room a.plan.now a.at 5 RS _ _ x.result x.ensures (p.t, p.c) p.was)

pub returns-in_err-t-in-21075 : goal.returns-in_err-t-in-21075
unfolding operator_of Arms.select Arms.column Code.operator_of Code.ColumnsStand
returns-in_err-t-in-21075 c =
    let a = c.args in
    let m = c.word2-mark in
    let x = c.column in
    rw c.from_residual-in_err-t-in-21075.ensures
    (of_mark a.plan.now a.at None m.result mark_rs m.ensures.0 c.in-21075.is
    (pair_cut a.plan.now a.at 5 RS _ _ x.result x.ensures c.in_err-t-in-21075.was))

pub returns-in_ok-t-in-21075 : goal.returns-in_ok-t-in-21075
unfolding operator_of Arms.select Arms.column Code.operator_of Code.ColumnsStand
returns-in_ok-t-in-21075 c =
    let a = c.args in
    let m = c.word2-mark in
    let x = c.column in
    let p = c.in_ok-t-in-21075 in
    let s = c.sound-in-21075 in
    of_mark a.plan.now a.at s.result m.result mark_rs m.ensures.0 c.in-21075.is
    (pair_reads a.plan.now a.at 5 RS _ _ x.result x.ensures (p.t, p.c) p.was s.result
    (Operator.Select p.t p.c) s.ensures tt refl)

pub overflow_add-at-in-21059 : goal.overflow_add-at-in-21059
unfolding Arms.column
overflow_add-at-in-21059 c =
    let a = c.args in
    let x = c.column-in-21059 in
    let p = c.in_ok-t-in-21059 in
    omega (arith, pair_room a.plan.now a.at 5 RC _ _ x.result x.ensures (p.t, p.c) p.was)

pub returns-in_err-t-in-21059 : goal.returns-in_err-t-in-21059
unfolding operator_of Arms.counts Arms.column Code.operator_of Code.ColumnsStand
returns-in_err-t-in-21059 c =
    let a = c.args in
    let m = c.word2-mark in
    let x = c.column-in-21059 in
    rw c.from_residual-in_err-t-in-21059.ensures
    (of_mark a.plan.now a.at None m.result mark_rc m.ensures.0 c.in-21059.is
    (pair_cut a.plan.now a.at 5 RC _ _ x.result x.ensures c.in_err-t-in-21059.was))

pub returns-in_ok-t-in-21059 : goal.returns-in_ok-t-in-21059
unfolding operator_of Arms.counts Arms.column Code.operator_of Code.ColumnsStand
returns-in_ok-t-in-21059 c =
    let a = c.args in
    let m = c.word2-mark in
    let x = c.column-in-21059 in
    let p = c.in_ok-t-in-21059 in
    let s = c.sound-in-21059 in
    of_mark a.plan.now a.at s.result m.result mark_rc m.ensures.0 c.in-21059.is
    (pair_reads a.plan.now a.at 5 RC _ _ x.result x.ensures (p.t, p.c) p.was s.result
    (Operator.Counts p.t p.c) s.ensures tt refl)

pub overflow_add-at-in-21067 : goal.overflow_add-at-in-21067
unfolding Arms.column
overflow_add-at-in-21067 c =
    let a = c.args in
    let x = c.column-in-21067 in
    let p = c.in_ok-t-in-21067 in
    omega (arith, pair_room a.plan.now a.at 5 RK _ _ x.result x.ensures (p.t, p.c) p.was)

pub returns-in_err-t-in-21067 : goal.returns-in_err-t-in-21067
unfolding operator_of Arms.once Arms.column Code.operator_of Code.ColumnsStand
returns-in_err-t-in-21067 c =
    let a = c.args in
    let m = c.word2-mark in
    let x = c.column-in-21067 in
    rw c.from_residual-in_err-t-in-21067.ensures
    (of_mark a.plan.now a.at None m.result mark_rk m.ensures.0 c.in-21067.is
    (pair_cut a.plan.now a.at 5 RK _ _ x.result x.ensures c.in_err-t-in-21067.was))

pub returns-in_ok-t-in-21067 : goal.returns-in_ok-t-in-21067
unfolding operator_of Arms.once Arms.column Code.operator_of Code.ColumnsStand
returns-in_ok-t-in-21067 c =
    let a = c.args in
    let m = c.word2-mark in
    let x = c.column-in-21067 in
    let p = c.in_ok-t-in-21067 in
    let s = c.sound-in-21067 in
    of_mark a.plan.now a.at s.result m.result mark_rk m.ensures.0 c.in-21067.is
    (pair_reads a.plan.now a.at 5 RK _ _ x.result x.ensures (p.t, p.c) p.was s.result
    (Operator.Once p.t p.c) s.ensures tt refl)
