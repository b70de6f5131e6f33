-- `members::opens` meets its contract: the first row; the row just above, where the column climbs; every row
-- above.
use Prim.Native.Nat.{◌-◌}
use mathlib.Core.Path.{sym, ap, ◌∙◌}
use mathlib.Core.Bool.{not}
use native.Mathlib.Omega.{arith}
use mir.Syntax.{w64}
use Rattle.cells.proofs.Bits.{read_back}
use Rattle.cells.specs.Cell.{same}
use Rattle.tables.specs.Layout.{table_at, Inside}
use Rattle.tables.specs.Order.{cell_at}
use Rattle.tables.proofs.Reading.{row_inside, length_table}
use Rattle.members.proofs.Opening.{opens_first, opens_up, opens_else}
use Rattle.members.proofs.opens.Goals as goal

pub returns-then-i-eq0 : goal.returns-then-i-eq0
returns-then-i-eq0 c =
    opens_first _ _ _ c.if-i-eq0.true

pub returns-then-up : goal.returns-then-up
returns-then-up c =
    ap not
    (c.holds.ensures
    ∙ ap (λ z. same z (cell_at (table_at c.args.work.now c.args.s) c.args.c (c.args.i - 1)))
    (read_back w64 c.cell_at-cell.type_inv ∙ c.cell_at-cell.ensures))
    ∙ opens_up _ _ _ (sym c.requires.up_value ∙ c.if-up.true) c.if-i-eq0.false
    (omega (arith, length_table c.args.work.now c.args.s, c.requires.inside.2))

pub occurs-requires : goal.occurs-requires
unfolding Inside
occurs-requires c =
    (omega (arith, row_inside _ _ c.args.s.width c.requires.inside.2), omega arith)

pub returns : goal.returns
unfolding table_at
returns c =
    ap not c.occurs.ensures
    ∙ opens_else _ _ _ _ _ c.requires.inside.2
    (read_back w64 c.cell_at-cell.type_inv ∙ c.cell_at-cell.ensures)
