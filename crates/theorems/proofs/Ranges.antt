-- The fields that are numbers in a range (document 01, 'Query records').
--     variable_below      a variable is 0 to 7
--     fragment_within     a fragment is 1 to 255
use Prim.Native.Nat.{ℕ, ◌≤◌, ◌<◌}
use borrow.Author.Tests.{leb-true, ltb-true}
use Rattle.laws.specs.Attempt.{Given}
use Rattle.laws.proofs.Outcomes.{given_gives, given_provided}
use Rattle.laws.proofs.Booleans.{both_true}
use Rattle.meaning.specs.Query.{variable_of, fragment_of}

pub variable_below : (b : ℕ) → Given (λ v. v < 8) (variable_of b)
unfolding variable_of
variable_below b = given_provided _ (λ t. given_gives (ltb-true b 8 t))

pub fragment_within : (b : ℕ) → Given (λ k. (1 ≤ k) × (k ≤ 255)) (fragment_of b)
unfolding fragment_of
fragment_within b =
    given_provided _
    (λ t. let (l, u) = both_true _ _ t in given_gives (leb-true 1 b l, leb-true b 255 u))
