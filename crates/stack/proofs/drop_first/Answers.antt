-- `drop_first` meets its contract: b's items move down over a's.
use Prim.Native.Nat.{◌+◌}
use mathlib.Core.Logic.{inl}
use native.Mathlib.Omega.{arith}
use Rattle.laws.proofs.Rows.{length_row}
use Rattle.stack.specs.Moves.{kept}
use Rattle.stack.proofs.Leaving.{leaves_pair, leaves_laid}
use Rattle.stack.proofs.drop_first.Goals as goal

pub copy-requires : goal.copy-requires
copy-requires c =
    (inl (omega arith), omega arith, omega arith)

pub returns : goal.returns
unfolding kept
returns c =
    λ room f.
    let d = c.args.pair in
    let s = length_row c.args.work.now (c.args.top + d.first) d.second (omega arith) in
    leaves_pair _ room _ _ _ _ _
    (leaves_laid _ _ _ _ _ _ _ c.copy.ensures (omega (arith, s)) s (omega (arith, f.0)) f.1 (λ e h. h))
