-- `put_column` meets its contract: the cell's word, in bytes of its own, then at the right.
use Prim.Native.Nat.{◌-◌}
use mathlib.Core.Path.{◌≡◌}
use native.Mathlib.Omega.{arith}
use mir.Facts.{to_z-of_z}
use Rattle.pen.proofs.Putting.{pens_as}
use Rattle.shown_rows.proofs.Lining.{column_is, taken_short}
use Rattle.shown_rows.proofs.put_column.Goals as goal

pub returns : goal.returns
returns c =
    let n = c.put_cell-n.result in
    let whole : n - 0 ≡ n = omega arith in (
      pens_as
          (column_is _ _ (n - 0) n _ _ c.put_cell-n.ensures.1 c.put_cell-n.ensures.0
          (to_z-of_z c.ranges.cell) whole)
          c.put_right.ensures.0,
      omega (
        arith,
        c.put_right.ensures.1,
        c.put_cell-n.ensures.1,
        taken_short (n - 0) c.put_cell-n.new.text,
      ),
    )
