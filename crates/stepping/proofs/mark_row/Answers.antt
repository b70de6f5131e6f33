-- `stepping::mark_row` meets its contract: a row of the iteration is marked, another is not.
use mathlib.Core.Path.{◌≡◌, refl, sym, ap₂, ◌∙◌, subst}
use mathlib.Core.List.{[]}
use lib.IntN.{ℤ}
use lib.ListN.{get_or}
use mir.Syntax.{w64}
use mir.Facts.{to_z-of_z}
use Rattle.cells.specs.Cell.{same}
use Rattle.cells.proofs.Bits.{read_back}
use Rattle.std.specs.Prelude.{Ok}
use Rattle.nodesets.specs.Nodes.{FromOne}
use Rattle.tables.specs.Layout.{table_at}
use Rattle.tables.specs.Order.{cell_at}
use Rattle.stepping.proofs.Nodes.{from_yes, from_no}
use Rattle.stepping.proofs.mark_row.Goals as goal

pub returns-then-not-same : goal.returns-then-not-same
returns-then-not-same c =
    let equal : c.same.result ≡ same c.args.iteration.0 (cell_at (table_at c.args.work.now c.args.s) 0 c.args.i) =
    c.same.ensures
    ∙ ap₂ same (to_z-of_z {w = w64} (record { sfits = c.struct_told-1.given.0.1 }))
    (read_back w64 c.cell_at.type_inv ∙ c.cell_at.ensures) in
    let r = get_or (table_at c.args.work.now c.args.s) c.args.i [] in
    λ d e.
    from_no d c.args.iteration.0 r (Ok tt) c.args.marks.now c.args.marks.now
    (sym equal ∙ c.if-not-same.true) refl refl

pub returns : goal.returns
returns c =
    let equal : c.same.result ≡ same c.args.iteration.0 (cell_at (table_at c.args.work.now c.args.s) 0 c.args.i) =
    c.same.ensures
    ∙ ap₂ same (to_z-of_z {w = w64} (record { sfits = c.struct_told-1.given.0.1 }))
    (read_back w64 c.cell_at.type_inv ∙ c.cell_at.ensures) in
    let r = get_or (table_at c.args.work.now c.args.s) c.args.i [] in
    let old = c.args.marks.now in
    let new = c.mark_one.new.marks in
    λ d e.
    from_yes d c.args.iteration.0 r c.mark_one.result old new
    (sym equal ∙ c.if-not-same.false)
    (subst (λ (z : ℤ). FromOne d z c.mark_one.result old new)
    (read_back w64 c.cell_at-2.type_inv ∙ c.cell_at-2.ensures) (c.mark_one.ensures d e))
