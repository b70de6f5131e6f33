-- Laws of the amount that digits spell, and of the digits of a number.
--     amount_append     the amount of two stretches of digits, one behind the other
--     amount_rises      digits behind an amount do not lessen it
--     digits_small, digits_large     a number below ten is one digit; any other is a tenth of it, then its last digit
--     tenth_below       a tenth of a number has a digit less
--     amount_digits     the amount of a number's digits is the number
--     all_digits        they are digits
--     lead_digits       the first of them is not `0`, where the number is not 0
use Prim.Native.Nat.{ℕ, zero, suc, ◌+◌, ◌*◌, ◌/◌, ◌%◌, ◌^◌, ◌≤◌, ◌<◌}
use mathlib.Core.Path.{◌≡◌, refl}
use mathlib.Core.List.{List, [], ◌∷◌, ◌++◌}
use mathlib.Core.Bool.{true}
use native.Mathlib.Omega.{arith}
use native.Mathlib.Nat.{pow-suc}
use lib.Dec.{ltb}
use borrow.Author.Tests.{ltb-true, ltb-false, lt-ltb, le-ltb}
use Rattle.laws.specs.Characters.{is_digit, AllDigits}
use Rattle.laws.proofs.Booleans.{by_cases}
use Rattle.laws.proofs.Lists.{all_append}
use Rattle.laws.proofs.Characters.{few_digit}
use Rattle.pen.specs.Decimal.{digits}
use Rattle.pen.specs.Amounts.{Lead, digit_of, amount_from, amount}

pub amount_append : (v : ℕ) (ds es : List ℕ) → amount_from v (ds ++ es) ≡ amount_from (amount_from v ds) es
unfolding amount_from
amount_append v [] es = refl
amount_append v (b ∷ ds) es = amount_append (v * 10 + digit_of b) ds es

pub amount_rises : (v : ℕ) (ds : List ℕ) → v ≤ amount_from v ds
unfolding amount_from
amount_rises v [] = omega arith
amount_rises v (b ∷ ds) = omega (arith, amount_rises (v * 10 + digit_of b) ds)

pub digits_small : (k n : ℕ) → n < 10 → digits (suc k) n ≡ (48 + n) ∷ []
unfolding digits
digits_small k n h = rw (lt-ltb n 10 h)

pub digits_large : (k n : ℕ) → 10 ≤ n → digits (suc k) n ≡ digits k (n / 10) ++ ((48 + n % 10) ∷ [])
unfolding digits
digits_large k n h = rw (le-ltb n 10 h)

pub tenth_below : (k n : ℕ) → n < 10 ^ suc k → n / 10 < 10 ^ k
tenth_below k n h = omega (arith, pow-suc 10 k)

pub amount_digits : (k n : ℕ) → n < 10 ^ k → amount (digits k n) ≡ n
unfolding digits amount_from
amount_digits zero n h = omega arith
amount_digits (suc k) n h =
    by_cases (ltb n 10)
    (λ e. rw (digits_small k n (ltb-true n 10 e)) (omega arith))
    (λ e.
    rw (digits_large k n (ltb-false n 10 e)) (rw (amount_append 0 (digits k (n / 10)) ((48 + n % 10) ∷ []))
    (omega (arith, amount_digits k (n / 10) (tenth_below k n h)))))

pub all_digits : (k n : ℕ) → AllDigits (digits k n)
unfolding digits
all_digits zero n = tt
all_digits (suc k) n =
    by_cases (ltb n 10)
    (λ e.
    rw (digits_small k n (ltb-true n 10 e)) (few_digit (48 + n) (omega arith) (omega (arith, ltb-true n 10 e)), tt))
    (λ e.
    rw (digits_large k n (ltb-false n 10 e))
    (all_append (λ b. is_digit b ≡ true) (digits k (n / 10)) ((48 + n % 10) ∷ []) (all_digits k (n / 10))
    (few_digit (48 + n % 10) (omega arith) (omega arith), tt)))

lead_append : (ds es : List ℕ) → Lead ds → Lead (ds ++ es)
lead_append [] es h = absurd h
lead_append (b ∷ ds) es h = h

pub lead_digits : (k n : ℕ) → 0 < n → n < 10 ^ k → Lead (digits k n)
unfolding digits
lead_digits zero n l h = absurd (omega arith)
lead_digits (suc k) n l h =
    by_cases (ltb n 10)
    (λ e. rw (digits_small k n (ltb-true n 10 e)) (λ z. omega arith))
    (λ e.
    rw (digits_large k n (ltb-false n 10 e))
    (lead_append (digits k (n / 10)) ((48 + n % 10) ∷ [])
    (lead_digits k (n / 10) (omega (arith, ltb-false n 10 e)) (tenth_below k n h))))
