-- `rows::select` meets its contract.
use mathlib.Core.Path.{◌≡◌, ap, ◌∙◌}
use native.Mathlib.Omega.{arith}
use mir.Facts.{to_z-of_z}
use Rattle.cells.specs.Cell.{same, true_cell}
use Rattle.laws.specs.Rows.{row}
use Rattle.meaning.specs.Operators.{cell}
use Rattle.tables.proofs.Promise.{owes_then, owes_else, none_laid}
use Rattle.rows.proofs.Columns.{column_test}
use mir.Syntax.{w64}
use Rattle.rows.proofs.select.Goals as goal

pub returns-then-same : goal.returns-then-same
returns-then-same c =
    let a = c.args in
    let column : same (cell (row a.work.now a.a a.w) a.c) true_cell ≡ c.same.result =
    column_test _ _ _ _ _ (omega arith)
    (c.same.ensures ∙ ap (λ z. same z true_cell) (to_z-of_z {w = w64} (record { sfits = c.same-arg-1.given }))) in
    owes_then _ _ _ _ _ _ _ _ _ (column ∙ c.if-same.true) c.repeat.ensures

pub returns-else-same : goal.returns-else-same
returns-else-same c =
    let a = c.args in
    let column : same (cell (row a.work.now a.a a.w) a.c) true_cell ≡ c.same.result =
    column_test _ _ _ _ _ (omega arith)
    (c.same.ensures ∙ ap (λ z. same z true_cell) (to_z-of_z {w = w64} (record { sfits = c.same-arg-1.given }))) in
    owes_else _ _ _ _ _ _ _ _ _ (column ∙ c.if-same.false) (none_laid _ _ _ _ (omega arith))
