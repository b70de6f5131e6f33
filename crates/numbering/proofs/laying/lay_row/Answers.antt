-- `numbering::laying::lay_row` meets its contract: the row is copied, and the counter laid behind it.
use Prim.Native.Nat.{◌+◌}
use mathlib.Core.Path.{ap, ◌∙◌}
use native.Mathlib.Omega.{arith}
use lib.ListN.{set}
use mir.Facts.{to_z_pos}
use mir.Syntax.{w64}
use Rattle.laws.proofs.Rows.{set_more, length_row}
use borrow.Author.Rules.{rules}
use Rattle.numbering.proofs.laying.lay_row.Goals as goal

pub overflow_cast-work : goal.overflow_cast-work
overflow_cast-work c =
    record { sfits = omega arith }

pub returns : goal.returns
returns c =
    let a = c.args in
    ap (set c.copy.new.work (a.to + a.w)) (to_z_pos w64 (omega arith))
    ∙ set_more _ _ _ _ _ _ c.copy.ensures (length_row _ _ _ (omega arith)) (omega arith)
