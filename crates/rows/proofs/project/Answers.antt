-- `rows::project` meets its contract. The invariant: the first i of the named columns are laid.
use Prim.Native.Nat.{◌<◌}
use mathlib.Core.Path.{sym}
use native.Mathlib.Omega.{arith}
use mir.Syntax.{w64}
use mir.Facts.{to_z-of_z}
use Rattle.laws.proofs.Rows.{laid_nothing}
use Rattle.rows.proofs.Columns.{column_below, projected_none, projected_more, projected_full, projected_laid}
use Rattle.rows.proofs.project.Goals as goal

pub returns-then-room-at : goal.returns-then-room-at
returns-then-room-at c =
    projected_full _ _ _ _ _ _ _ _ (omega arith) (omega arith)

pub loop-i-init : goal.loop-i-init
loop-i-init c = rw projected_none (sym (laid_nothing _ _))

pub overflow_add-work : goal.overflow_add-work
overflow_add-work c =
    let below : c.from-c.result < c.args.w =
    column_below _ _ _ _ _ _ (omega arith) c.requires.n_in_bounds.1 (omega arith) c.from-c.ensures in
    omega (arith, below)

pub offset_bounds-work-a : goal.offset_bounds-work-a
offset_bounds-work-a c =
    let below : c.from-c.result < c.args.w =
    column_below _ _ _ _ _ _ (omega arith) c.requires.n_in_bounds.1 (omega arith) c.from-c.ensures in
    omega (arith, below)

pub slice_copy_out-work : goal.slice_copy_out-work
slice_copy_out-work c =
    let below : c.from-c.result < c.args.w =
    column_below _ _ _ _ _ _ (omega arith) c.requires.n_in_bounds.1 (omega arith) c.from-c.ensures in
    omega (arith, below)

pub loop-i-preserved : goal.loop-i-preserved
loop-i-preserved c =
    let below : c.from-c.result < c.args.w =
    column_below _ _ _ _ _ _ (omega arith) c.requires.n_in_bounds.1 (omega arith) c.from-c.ensures in
    projected_more _ _ _ _ _ _ _ _ _ _ c.loop-i.invariant (omega arith) (omega arith) (omega arith)
    c.from-c.ensures below (to_z-of_z {w = w64} (record { sfits = c.work-1.given }))

pub returns : goal.returns
returns c =
    projected_laid _ _ _ _ _ _ _ _ (omega arith) _ _ (omega arith) (omega arith) c.loop-i.invariant
