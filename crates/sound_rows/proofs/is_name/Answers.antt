-- `is_name` tells a name number: none below 0, and of the others those below 65,536.
use mathlib.Core.Path.{◌≡◌}
use mir.Syntax.{w32}
use mir.Val.{to_z, of_z}
use mir.Facts.{to_z-of_z}
use Rattle.sound_rows.proofs.OwnFields.{not_name, name}
use Rattle.sound_rows.proofs.is_name.Goals as goal

pub returns-then-prop-ge0 : goal.returns-then-prop-ge0
returns-then-prop-ge0 c =
    let back : to_z w32 (of_z w32 c.args.prop) ≡ c.args.prop = to_z-of_z c.ranges.prop in
    rw back (name c.args.prop (rw back at c.if-prop-ge0.true))

pub returns-else-prop-ge0 : goal.returns-else-prop-ge0
returns-else-prop-ge0 c =
    let back : to_z w32 (of_z w32 c.args.prop) ≡ c.args.prop = to_z-of_z c.ranges.prop in
    rw back (not_name c.args.prop (rw back at c.if-prop-ge0.false))
