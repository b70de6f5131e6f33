-- `judging::first_of` meets its contract. The invariant: row `best` comes first of the group's rows before
-- row i, and what is left gives what the whole gives.
use Prim.Native.Nat.{◌-◌, ◌<◌}
use mathlib.Core.Path.{◌≡◌, sym, ap, ◌∙◌}
use mathlib.Core.List.{[]}
use native.Mathlib.Omega.{arith}
use lib.ListN.{length, get_or, drop}
use mir.Syntax.{w64}
use mir.Val.{to_z, of_z}
use Rattle.cells.proofs.Bits.{read_back}
use Rattle.meaning.specs.Operators.{group_of}
use Rattle.tables.specs.Layout.{table_at}
use Rattle.members.specs.Grouped.{in_front}
use Rattle.judging.specs.Foremost.{least}
use Rattle.tables.proofs.Reading.{length_table}
use Rattle.judging.proofs.Least.{least_more, least_within, least_end}
use borrow.Author.Rules.{rules}
use Rattle.judging.proofs.first_of.Goals as goal

pub loop-i-init : goal.loop-i-init
loop-i-init c =
    let t = table_at c.args.work.now c.args.s in (
      omega arith,
      ap (λ x. least (get_or t 0 []) (group_of (drop 1 t) 0 x))
          (read_back w64 c.cell_at-x.type_inv ∙ c.cell_at-x.ensures),
    )

pub loop-i-preserved : goal.loop-i-preserved
loop-i-preserved c =
    let t = table_at c.args.work.now c.args.s in
    let x = to_z w64 (of_z w64 c.cell_at-x.result) in
    let here : c.loop-i.i < length t =
    omega (arith, length_table c.args.work.now c.args.s, c.loop-i-test.true) in (
      least_within t x c.loop-i.i c.loop-i.best _ c.better-best.ensures _ c.loop-i-test.true c.loop-i.invariant.0,
      sym (least_more t x c.loop-i.i c.loop-i.best _ c.better-best.ensures here) ∙ c.loop-i.invariant.1,
    )

pub returns : goal.returns
returns c = (
  c.loop-i.invariant.0,
  least_end (table_at c.args.work.now c.args.s) (to_z w64 (of_z w64 c.cell_at-x.result))
      c.loop-i.i _ _
      (omega (arith, length_table c.args.work.now c.args.s)) c.loop-i.invariant.1,
)
