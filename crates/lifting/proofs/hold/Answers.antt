use mathlib.Core.Path.{sym}
use native.Mathlib.Omega.{arith}
use lib.Seq.{set_out}
use Rattle.lifting.proofs.hold.Goals as goal

pub returns-else-v-lt8 : goal.returns-else-v-lt8
returns-else-v-lt8 g c =
    sym (set_out c.args.row c.args.v _ (omega arith))
