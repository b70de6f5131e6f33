-- `whole::once::apart` meets its contract. The invariant: the rows from row i on hold no cell twice exactly where all
-- do.
use Prim.Native.Nat.{◌+◌, ◌*◌}
use mathlib.Core.Path.{◌≡◌, refl, sym, ap, ap₂, ◌∙◌}
use native.Mathlib.Omega.{arith}
use mir.Syntax.{w64}
use lib.ListN.{length, drop}
use Rattle.cells.proofs.Bits.{read_back}
use Rattle.cells.specs.Cell.{same}
use Rattle.laws.specs.Lists.{any}
use Rattle.meaning.specs.Operators.{column}
use Rattle.tables.specs.Layout.{table_at, Inside}
use Rattle.tables.specs.Order.{cell_at}
use Rattle.tables.proofs.Reading.{length_table}
use Rattle.whole.proofs.Repeats.{once_again, once_next, once_none, below_inside, below_holds}
use borrow.Author.Rules.{rules}
use Rattle.whole.proofs.once.apart.Goals as goal

pub overflow_mul-below : goal.overflow_mul-below
unfolding Inside
overflow_mul-below c =
    omega (
      arith,
      below_inside c.args.s.at c.args.s.rows c.args.s.width c.loop-i.i
          (length c.args.work.now) (omega arith) c.requires.0,
    )

pub overflow_add-below : goal.overflow_add-below
unfolding Inside
overflow_add-below c =
    omega (
      arith,
      below_inside c.args.s.at c.args.s.rows c.args.s.width c.loop-i.i
          (length c.args.work.now) (omega arith) c.requires.0,
    )

pub occurs-requires : goal.occurs-requires
unfolding Inside
occurs-requires c = (
  below_inside c.args.s.at c.args.s.rows c.args.s.width c.loop-i.i
      (length c.args.work.now) (omega arith) c.requires.0,
  omega arith,
)

pub returns-then-occurs : goal.returns-then-occurs
unfolding table_at
returns-then-occurs c =
    let g = c.args in
    sym (once_again (table_at g.work.now g.s) g.c c.loop-i.i (omega (arith, length_table g.work.now g.s))
    (sym (below_holds _ _ _ _ _ (omega arith) (read_back w64 c.cell_at.type_inv ∙ c.cell_at.ensures))
    ∙ sym c.occurs.ensures ∙ c.if-occurs.true))
    ∙ c.loop-i.invariant

pub loop-i-preserved : goal.loop-i-preserved
unfolding table_at
loop-i-preserved c =
    let g = c.args in
    sym (once_next (table_at g.work.now g.s) g.c c.loop-i.i (omega (arith, length_table g.work.now g.s))
    (sym (below_holds _ _ _ _ _ (omega arith) (read_back w64 c.cell_at.type_inv ∙ c.cell_at.ensures))
    ∙ sym c.occurs.ensures ∙ c.if-occurs.false))
    ∙ c.loop-i.invariant

pub returns : goal.returns
returns c =
    sym (once_none (table_at c.args.work.now c.args.s) c.args.c c.loop-i.i
    (omega (arith, length_table c.args.work.now c.args.s)))
    ∙ c.loop-i.invariant
