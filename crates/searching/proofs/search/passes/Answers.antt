-- `searching::search::passes` meets its contract: the cell that it reads is that of the column.
use mathlib.Core.Path.{sym, ap, ◌∙◌}
use mathlib.Core.Bool.{not}
use mir.Syntax.{w64}
use mir.Facts.{to_z-of_z}
use Rattle.cells.proofs.Bits.{read_back}
use Rattle.tables.specs.Layout.{table_at}
use Rattle.searching.proofs.Passing.{passed_equal, passed_before}
use Rattle.tables.proofs.Reading.{get_d_column}
use Rattle.searching.proofs.search.passes.Goals as goal

pub returns-then-equal : goal.returns-then-equal
returns-then-equal c =
    let g = c.args in
    ap not c.before-then-equal.ensures
    ∙ passed_equal _ _ _ _ _ (to_z-of_z c.ranges.x)
    (read_back w64 c.cell_at-cell.type_inv ∙ c.cell_at-cell.ensures
    ∙ sym (get_d_column (table_at g.work.now g.u) g.d g.i))
    c.if-equal.true

pub returns-else-equal : goal.returns-else-equal
returns-else-equal c =
    let g = c.args in
    c.before-else-equal.ensures
    ∙ passed_before _ _ _ _ _ (to_z-of_z c.ranges.x)
    (read_back w64 c.cell_at-cell.type_inv ∙ c.cell_at-cell.ensures
    ∙ sym (get_d_column (table_at g.work.now g.u) g.d g.i))
    c.if-equal.false
