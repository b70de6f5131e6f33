-- `rows::search::has_equal` meets its contract. The search: from the row at b on, some row is equal exactly where one
-- of the whole table is. The comparison: from cell i on, the two rows are equal exactly where they are. The measures
-- are the rows and the cells that are left.
use Prim.Native.Nat.{◌+◌}
use mathlib.Core.Path.{◌≡◌, refl, sym, ap, ap₂, ◌∙◌}
use borrow.Author.Tests.{le-ltb, lt-ltb}
use native.Mathlib.Omega.{arith}
use lib.IntN.{pos}
use lib.ListN.{get_or}
use mir.Facts.{to_z-of_z}
use Rattle.cells.specs.Cell.{same}
use Rattle.laws.specs.Lists.{any}
use Rattle.laws.specs.Rows.{row, rows_at}
use Rattle.meaning.specs.Operators.{same_row}
use Rattle.tables.specs.Layout.{table_at, Inside}
use Rattle.tables.proofs.Unrolled.{past_first, table_rows, any_found, any_next, any_none}
use Rattle.rows.proofs.Comparing.{cells_all, cells_same, cells_differ, cells_through}
use mir.Syntax.{w64}
use Rattle.rows.proofs.search.has_equal.Goals as goal
use Rattle.rows.proofs.search.has_equal.Goals.{else-search-test, then-search-test+then-i-w}

pub search-init : goal.search-init
unfolding Inside
search-init c =
    (rw (sym c.requires.2) c.requires.1, refl)

pub loop-i-init : goal.loop-i-init
loop-i-init c =
    (omega arith, cells_all _ _ _ _)

pub overflow_add-b : goal.overflow_add-b
overflow_add-b c =
    omega (arith, past_first c.search.left c.args.w c.search-test.true)

pub offset_bounds-work-b : goal.offset_bounds-work-b
offset_bounds-work-b c =
    omega (arith, past_first c.search.left c.args.w c.search-test.true)

pub bounds-work-b : goal.bounds-work-b
bounds-work-b c =
    omega (arith, past_first c.search.left c.args.w c.search-test.true)

pub loop-i-preserved : goal.loop-i-preserved
loop-i-preserved c =
    let first = past_first c.search.left c.args.w c.search-test.true in
    let xs = c.args.work.now in
    let i = c.loop-i.i in
    let equal : same (get_or xs (c.args.a + i) (pos 0)) (get_or xs (c.search.b + i) (pos 0)) ≡ c.same.result = sym
    (c.same.ensures
    ∙ ap₂ same (to_z-of_z {w = w64} (record { sfits = c.same-arg-1.given }))
    (to_z-of_z {w = w64} (record { sfits = c.same-arg-in-loop-i-1.given }))) in (
      omega arith,
      sym (cells_same _ _ _ _ _ (omega arith) (omega arith) (omega (arith, first))
          (equal ∙ c.if-not-same.false))
          ∙ c.loop-i.invariant.1,
    )

pub overflow_add-b-in-search : goal.overflow_add-b-in-search
overflow_add-b-in-search c =
    omega (arith, past_first c.search.left c.args.w c.search-test.true)

pub search-preserved : goal.search-preserved
search-preserved c =
    let first = past_first c.search.left c.args.w c.search-test.true in
    let xs = c.args.work.now in
    let i = c.loop-i.i in
    let equal : same (get_or xs (c.args.a + i) (pos 0)) (get_or xs (c.search.b + i) (pos 0)) ≡ c.same.result = sym
    (c.same.ensures
    ∙ ap₂ same (to_z-of_z {w = w64} (record { sfits = c.same-arg-1.given }))
    (to_z-of_z {w = w64} (record { sfits = c.same-arg-in-loop-i-1.given }))) in (
      omega (arith, first),
      sym (any_next _ _ _ _ _ (omega arith) (sym c.loop-i.invariant.1
          ∙ cells_differ _ _ _ _ _ (omega arith) (omega arith) (omega (arith, first))
          (equal ∙ c.if-not-same.true)))
          ∙ c.search.invariant.1,
    )

pub returns : goal.returns
returns c =
    let xs = c.args.work.now in
    let p = same_row (row xs c.args.a c.args.w) in
    let whole : any p (rows_at xs c.search.b c.search.left c.args.w) ≡ any p (table_at xs c.args.s) =
    c.search.invariant.1 ∙ ap (any _) (table_rows _ _ _ c.requires.2) in
    elim c.search-test.branch [
      | else-search-test w ↦ le-ltb _ _ w.search-test.false ∙ sym (any_none _ _ _ _ _ (omega arith)) ∙ whole
      | then-search-test+then-i-w w ↦
          lt-ltb _ _ w.search-test.true
          ∙ sym (any_found _ _ _ _ _ w.search-test.true
          (sym w.loop-i.invariant.1 ∙ cells_through _ _ _ _ _ w.if-i-w.true))
          ∙ whole
    ]
