-- The number that digits spell: what is written in decimal, read again.
--     digit_of b           the number of a digit
--     amount_from v ds     the number that the digits ds spell behind digits that spell v
--     amount ds           the number that the digits ds spell, the most significant first
--     Lead ds             there is a first byte, and it is not `0`
use Rattle.std.specs.Prelude.{ℕ, ◌+◌, ◌*◌, ◌-◌, ◌≡◌, List, [], ◌∷◌}

abbrev pub digit_of : ℕ → ℕ
digit_of b = b - 48

unfoldable pub amount_from : ℕ → List ℕ → ℕ
amount_from v [] = v
amount_from v (b ∷ ds) = amount_from (v * 10 + digit_of b) ds

abbrev pub amount : List ℕ → ℕ
amount ds = amount_from 0 ds

abbrev pub Lead : List ℕ → Type 0
Lead [] = ⊥
Lead (b ∷ ds) = b ≡ 48 → ⊥
