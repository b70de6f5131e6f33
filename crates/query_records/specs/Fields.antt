-- The fields of a record in their ranges (document 01, 'Query records').
--     Ranged r            QR's k is 1 to 255; a variable is 0 to 7
--     SoundRecord bs at x   the record x .0 stands from at to x.1, within the bytes
use Rattle.std.specs.Prelude.{ℕ, ◌≤◌, ◌<◌, List, length}
use Rattle.meaning.specs.Query.{Record, literal, empty, root, variable, sequence, letting, for, choice}
use Rattle.meaning.specs.Query.{function, counting, values, step}

unfoldable pub Ranged : Record → Type 0
Ranged (literal z) = Unit {0}
Ranged empty = Unit {0}
Ranged (root k) = (1 ≤ k) × (k ≤ 255)
Ranged (variable v) = v < 8
Ranged sequence = Unit {0}
Ranged (letting v) = v < 8
Ranged (for v) = v < 8
Ranged choice = Unit {0}
Ranged (function f) = Unit {0}
Ranged counting = Unit {0}
Ranged values = Unit {0}
Ranged (step x t) = Unit {0}

pub record SoundRecord (bs : List ℕ) (at : ℕ) (x : Record × ℕ) : Type 0 where
  pub after : at < x.1
  pub within : x.1 ≤ length bs
  pub ranged : Ranged x.0
