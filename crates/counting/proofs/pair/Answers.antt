-- `counting::pair` meets its contract: two cells are stored, where there is room for them.
use native.Mathlib.Omega.{arith}
use lib.ListN.{length-set}
use mir.Facts.{to_z-of_z}
use Rattle.members.proofs.Members.{pair_full, pair_laid}
use Rattle.counting.proofs.pair.Goals as goal

pub returns-then-room-at-lt2 : goal.returns-then-room-at-lt2
returns-then-room-at-lt2 c =
    pair_full _ _ _ _ _ (omega arith)

pub bounds-work-at-2 : goal.bounds-work-at-2
bounds-work-at-2 c =
    simp length-set (omega arith)

pub returns : goal.returns
returns c =
    pair_laid _ _ _ _ _ _ _ (to_z-of_z c.ranges.x) (to_z-of_z c.ranges.y) (omega arith) (omega arith)
