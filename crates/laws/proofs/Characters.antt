-- Laws of digits.
--     digit_few      a digit is one of the bytes 48 to 57
--     few_digit      .. and each of these is a digit
--     low_digit      no byte below them is
use Prim.Native.Nat.{ℕ, ◌≤◌, ◌<◌}
use mathlib.Core.Path.{◌≡◌}
use mathlib.Core.Bool.{true, false}
use lib.Dec.{leb}
use borrow.Author.Tests.{leb-true, le-leb, lt-leb}
use Rattle.laws.specs.Characters.{is_digit}
use Rattle.laws.proofs.Booleans.{both_true}

pub digit_few : (b : ℕ) → is_digit b ≡ true → (48 ≤ b) × (b ≤ 57)
unfolding is_digit
digit_few b e =
    let h = both_true (leb 48 b) (leb b 57) e in
    (leb-true 48 b h.0, leb-true b 57 h.1)

pub few_digit : (b : ℕ) → 48 ≤ b → b ≤ 57 → is_digit b ≡ true
unfolding is_digit
few_digit b h k = rw (le-leb 48 b h, le-leb b 57 k)

pub low_digit : (b : ℕ) → b < 48 → is_digit b ≡ false
unfolding is_digit
low_digit b h = rw (lt-leb 48 b h)
