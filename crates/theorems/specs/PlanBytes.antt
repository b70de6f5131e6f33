-- One operator's bytes (document 01, 'Items and cells' and 'Plan operators').
--     ReadsBack o         the bytes of o, wherever they stand, read back as o
--     Byte b              b is a byte
use Rattle.std.specs.Prelude.{ℕ, ◌+◌, ◌<◌, ◌≡◌, List, ◌++◌, length}
use Rattle.laws.specs.Attempt.{gives}
use Rattle.meaning.specs.Plan.{Op, operator_at}
use Rattle.meaning.specs.Written.{operator_bytes}

abbrev pub ReadsBack : Op → Type 0
ReadsBack o =
    (xs ys : List ℕ) →
    operator_at (xs ++ (operator_bytes o ++ ys)) (length xs) ≡ gives (o, length xs + length (operator_bytes o))

abbrev pub Byte : ℕ → Type 0
Byte b = b < 256
