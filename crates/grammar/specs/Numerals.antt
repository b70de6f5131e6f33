-- Numbers as they are typed (document 02, L1).
--     Digits            one digit or more, each 0 to 9; zeros may stand in front
--     value_from v ds    the number that digits ds spell behind digits of value v
--     value n           the number that digits spell
--     digit_bytes n      their bytes
use Rattle.std.specs.Prelude.{ℕ, ◌+◌, ◌*◌, ◌<◌, List, [], ◌∷◌, map}
use Rattle.laws.specs.Lists.{All}

pub record Digits : Type 0 where
  pub first : ℕ
  pub others : List ℕ
  pub small : All (λ (d : ℕ). d < 10) (first ∷ others)

unfoldable pub value_from : ℕ → List ℕ → ℕ
value_from v [] = v
value_from v (d ∷ ds) = value_from (v * 10 + d) ds

unfoldable pub value : Digits → ℕ
value n = value_from 0 (n.first ∷ n.others)

unfoldable pub digit_bytes : Digits → List ℕ
digit_bytes n = map (λ (d : ℕ). 48 + d) (n.first ∷ n.others)
