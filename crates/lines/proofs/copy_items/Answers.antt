-- `lines::copy_items` meets its contract. The invariant: the items of the first i rows are copied. The measure is how
-- many rows are left.
use mathlib.Core.Path.{◌≡◌, refl}
use native.Mathlib.Omega.{arith}
use lib.ListN.{length-set}
use borrow.Author.Rules.{rules}
use mir.Facts.{to_z-of_z}
use mir.Syntax.{w64}
use Rattle.lines.proofs.Kept.{kept_none, kept_more}
use Rattle.lines.proofs.copy_items.Goals as goal

pub loop-i-init : goal.loop-i-init
loop-i-init c =
    (kept_none c.args.work.now 3 2 (omega arith) c.args.kept.now c.args.start, refl)

pub loop-i-preserved : goal.loop-i-preserved
loop-i-preserved c = (
  kept_more _ _ _ (omega arith) _ _ _ _ _ c.loop-i.invariant.0 (omega arith)
      (to_z-of_z {w = w64} (record { sfits = search rules })),
  simp length-set c.loop-i.invariant.1,
)

pub returns : goal.returns
returns c =
    let e : c.loop-i.i ≡ c.args.rows = omega arith in
    rw e at c.loop-i.invariant.0
