-- `tables::order::cell_at` meets its contract: the row begins i rows further on.
use mathlib.Core.Path.{◌∙◌}
use native.Mathlib.Omega.{arith}
use mir.Syntax.{w64}
use mir.Facts.{to_z-of_z}
use Rattle.tables.specs.Layout.{Inside}
use Rattle.tables.proofs.Reading.{row_inside, cell_at_is}
use Rattle.tables.proofs.order.cell_at.Goals as goal

pub overflow_mul-result : goal.overflow_mul-result
unfolding Inside
overflow_mul-result c = omega (arith, row_inside _ _ c.args.s.width c.requires.2)

pub overflow_add-result : goal.overflow_add-result
unfolding Inside
overflow_add-result c = omega (arith, row_inside _ _ c.args.s.width c.requires.2)

pub overflow_add-result-2 : goal.overflow_add-result-2
unfolding Inside
overflow_add-result-2 c = omega (arith, row_inside _ _ c.args.s.width c.requires.2)

pub offset_bounds-work-s : goal.offset_bounds-work-s
unfolding Inside
offset_bounds-work-s c = omega (arith, row_inside _ _ c.args.s.width c.requires.2)

pub bounds-work-s : goal.bounds-work-s
unfolding Inside
bounds-work-s c = omega (arith, row_inside _ _ c.args.s.width c.requires.2)

pub returns : goal.returns
returns c =
    to_z-of_z {w = w64} (record { sfits = c.result-1.given })
    ∙ cell_at_is _ _ _ _ c.requires.1 c.requires.2
