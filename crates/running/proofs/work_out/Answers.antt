-- `work_out` meets its contract: the plan is walked over in the room.
use mathlib.Core.Path.{refl}
use native.Mathlib.Omega.{arith}
use lib.Dec.{lit≤}
use lib.ListN.{length}
use Rattle.lent.proofs.Room.{room_within}
use Rattle.running.proofs.work_out.Goals as goal

pub walk-requires : goal.walk-requires
walk-requires c =
    let fits = room_within (length c.args.work.now) in
    let r = c.room_of-room.ensures in record {
      accepted_plan = (c.requires.0, refl, omega (arith, fits.0), omega (arith, fits.1));
      in_bounds = (
        lit≤ tt,
        lit≤ tt,
        record { known = c.requires.1; sources = c.requires.1.few; targets = c.requires.1.few },
      );
    }

pub returns : goal.returns
returns c =
    rw c.room_of-room.ensures at c.walk.ensures
