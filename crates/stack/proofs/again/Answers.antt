-- `again` meets its contract: the room decides, and the items are laid at the top.
use mathlib.Core.Logic.{inr}
use native.Mathlib.Omega.{arith}
use Rattle.laws.proofs.Rows.{length_row}
use Rattle.stack.proofs.Leaving.{leaves_crowded, leaves_added}
use Rattle.stack.proofs.again.Goals as goal

pub returns-then-room-top : goal.returns-then-room-top
returns-then-room-top c =
    let s = length_row c.args.work.now c.args.start c.args.n
    (omega (arith, c.requires.0.low, c.requires.0.lent)) in
    leaves_crowded _ _ _ _ _ _ _ c.requires.0
    (omega (arith, c.requires.0.low, c.requires.0.lent, s))

pub copy-requires : goal.copy-requires
copy-requires c =
    let p = c.requires.0 in
    (inr c.requires.1, omega (arith, p.low, p.lent), omega (arith, p.low, p.lent))

pub returns : goal.returns
returns c =
    let s = length_row c.args.work.now c.args.start c.args.n
    (omega (arith, c.requires.0.low, c.requires.0.lent)) in
    leaves_added _ _ _ _ _ _ _ c.requires.0 _ _ (omega (arith, c.if-room-top.false))
    c.copy.ensures s (omega (arith, s)) (λ e h. h)
