-- Laws of the amount that digits spell, and of numbers in decimal.
--     amount_last          the amount with one digit more: ten times what stood, and the digit
--     amount_decimal       the amount of a number in decimal is the number
--     decimal_digits       its bytes are digits
--     decimal_lead         the first of them is not `0`, where the number is not 0
--     decimal_one          a number below ten is one digit
--     opens_digits, decimal_opens       there is one
--     opens_append         what opens with a digit still does with more behind it
--     lead_plain           what opens with another byte than `0` has no leading zero
--     plain_digits, decimal_plain       they have no leading zero
--     digits_amount, decimal_amount     digits without a leading zero are those of their amount
--     plain_unique         .. so two such spellings of one amount are equal
--     decimal_length       there are twenty at most
--     decimal_same, signed_same         two numbers of one spelling are equal
use Prim.Native.Nat.{ℕ, zero, suc, ◌+◌, ◌*◌, ◌-◌, ◌/◌, ◌%◌, ◌^◌, ◌≤◌, ◌<◌}
use mathlib.Core.Path.{◌≡◌, refl, sym, ap, ◌∙◌}
use mathlib.Core.List.{List, [], ◌∷◌, ◌++◌, append_assoc, append-nil, tail-eq_of_cons-eq}
use mathlib.Core.Bool.{true, true≢false}
use native.Mathlib.Omega.{arith}
use lib.Dec.{ltb}
use lib.IntN.{ℤ, pos, negsuc, nat_abs}
use lib.ListN.{length}
use borrow.Author.Tests.{ltb-true, ltb-false}
use Rattle.laws.proofs.Booleans.{by_cases}
use Rattle.laws.proofs.Characters.{digit_few, few_digit}
use Rattle.pen.specs.Decimal.{digits, decimal, signed}
use Rattle.laws.specs.Characters.{is_digit, AllDigits}
use Rattle.pen.specs.Amounts.{Lead, digit_of, amount_from, amount}
use Rattle.pen.proofs.Digits.{digits_short}
use Rattle.pen.proofs.Amounts.{amount_append, amount_digits, digits_small, digits_large, all_digits}
use Rattle.pen.proofs.Amounts.{lead_digits}
use Rattle.numerals.specs.Numerals.{Plain, opens}

pub amount_last : (ds : List ℕ) (b : ℕ) → amount (ds ++ (b ∷ [])) ≡ amount ds * 10 + digit_of b
unfolding amount_from
amount_last ds b = amount_append 0 ds (b ∷ [])

pub amount_decimal : (n : ℕ) → n < 10 ^ 20 → amount (decimal n) ≡ n
unfolding decimal
amount_decimal n h = amount_digits 20 n h

pub decimal_digits : (n : ℕ) → AllDigits (decimal n)
unfolding decimal
decimal_digits n = all_digits 20 n

pub decimal_lead : (n : ℕ) → 0 < n → n < 10 ^ 20 → Lead (decimal n)
unfolding decimal
decimal_lead n l h = lead_digits 20 n l h

pub decimal_one : (n : ℕ) → n < 10 → decimal n ≡ (48 + n) ∷ []
unfolding decimal
decimal_one n h = digits_small 19 n h

pub opens_append : (ds es : List ℕ) → opens ds ≡ true → opens (ds ++ es) ≡ true
unfolding opens
opens_append [] es e = absurd (true≢false (sym e))
opens_append (b ∷ ds) es e = e

pub opens_digits : (k n : ℕ) → opens (digits (suc k) n) ≡ true
unfolding digits opens
opens_digits zero n =
    by_cases (ltb n 10)
    (λ e. rw (digits_small 0 n (ltb-true n 10 e)) (few_digit (48 + n) (omega arith) (omega (arith, ltb-true n 10 e))))
    (λ e. rw (digits_large 0 n (ltb-false n 10 e)) (few_digit (48 + n % 10) (omega arith) (omega arith)))
opens_digits (suc k) n =
    by_cases (ltb n 10)
    (λ e.
    rw (digits_small (suc k) n (ltb-true n 10 e)) (few_digit (48 + n) (omega arith) (omega (arith, ltb-true n 10 e))))
    (λ e.
    rw (digits_large (suc k) n (ltb-false n 10 e))
    (opens_append (digits (suc k) (n / 10)) ((48 + n % 10) ∷ []) (opens_digits k (n / 10))))

pub decimal_opens : (n : ℕ) → opens (decimal n) ≡ true
unfolding decimal
decimal_opens n = opens_digits 19 n

pub lead_plain : (ds : List ℕ) → Lead ds → Plain ds
lead_plain [] h = h
lead_plain (b ∷ []) h = tt
lead_plain (b ∷ c ∷ ds) h = h

pub plain_digits : (k n : ℕ) → n < 10 ^ suc k → Plain (digits (suc k) n)
plain_digits k n h =
    by_cases (ltb n 10)
    (λ e. rw (digits_small k n (ltb-true n 10 e)) tt)
    (λ e. lead_plain (digits (suc k) n) (lead_digits (suc k) n (omega (arith, ltb-false n 10 e)) h))

pub decimal_plain : (n : ℕ) → n < 10 ^ 20 → Plain (decimal n)
unfolding decimal
decimal_plain n h = plain_digits 19 n h

-- the digits of a number with one more behind it
digits_next : (k n d : ℕ) → 0 < n → d < 10 → digits (suc k) (n * 10 + d) ≡ digits k n ++ ((48 + d) ∷ [])
digits_next k n d l h =
    digits_large k (n * 10 + d) (omega arith)
    ∙ rw ((next (n * 10 + d) n d refl h).0, (next (n * 10 + d) n d refl h).1) refl
  where
    next : (m n d : ℕ) → m ≡ n * 10 + d → d < 10 → (m / 10 ≡ n) × (m % 10 ≡ d)
    next m n d e h = (omega arith, omega arith)

-- digits behind a number that is not 0
digits_behind : (m k acc : ℕ) (ds : List ℕ) → m ≡ k + length ds → 0 < acc → AllDigits ds
    → digits m (amount_from acc ds) ≡ digits k acc ++ ds
unfolding amount_from
digits_behind m k acc [] e l h =
    let d : m ≡ k = omega arith in
    rw d (sym (append-nil (digits k acc)))
digits_behind m k acc (b ∷ ds) e l h =
    let f = digit_few b h.0 in
    let d : 48 + digit_of b ≡ b = omega arith in
    digits_behind m (suc k) (acc * 10 + digit_of b) ds (omega arith) (omega arith) h.1
    ∙ rw (digits_next k acc (digit_of b) l (omega arith), d) (append_assoc (digits k acc) (b ∷ []) ds)

pub digits_amount : (m k : ℕ) (ds : List ℕ) → m ≡ k + length ds → Plain ds → AllDigits ds → digits m (amount ds) ≡ ds
unfolding amount_from
digits_amount m k [] e p h = absurd p
digits_amount zero k (b ∷ []) e p h = absurd (omega arith)
digits_amount (suc m) k (b ∷ []) e p h =
    let f = digit_few b h.0 in
    let d : 48 + (0 * 10 + digit_of b) ≡ b = omega arith in
    digits_small m (0 * 10 + digit_of b) (omega arith) ∙ rw d
digits_amount m k (b ∷ c ∷ ds) e p h =
    let f = digit_few b h.0 in
    let d : 48 + (0 * 10 + digit_of b) ≡ b = omega arith in
    digits_behind m (suc k) (0 * 10 + digit_of b) (c ∷ ds) (omega arith) (leads b p f) h.1
    ∙ rw (digits_small k (0 * 10 + digit_of b) (omega arith), d)
  where
    leads : (b : ℕ) → (b ≡ 48 → ⊥) → (48 ≤ b) × (b ≤ 57) → 0 < 0 * 10 + digit_of b
    leads b p f =
        by_cases (ltb 48 b) (λ e. omega (arith, ltb-true 48 b e))
        (λ e. absurd (p (omega (arith, ltb-false 48 b e))))

pub decimal_amount : (ds : List ℕ) → length ds ≤ 20 → Plain ds → AllDigits ds → decimal (amount ds) ≡ ds
unfolding decimal
decimal_amount ds l p h = digits_amount 20 (20 - length ds) ds (omega arith) p h

pub plain_unique : (ds es : List ℕ) → Plain ds → Plain es → AllDigits ds → AllDigits es
    → amount ds ≡ amount es → ds ≡ es
plain_unique ds es p q h k e =
    sym (digits_amount (length es + length ds) (length es) ds refl p h)
    ∙ ap (digits (length es + length ds)) e
    ∙ digits_amount (length es + length ds) (length ds) es (omega arith) q k

opens_some : (t : List ℕ) → opens t ≡ true → 0 < length t
unfolding opens
opens_some [] e = absurd (true≢false (sym e))
opens_some (b ∷ t) e = omega arith

pub decimal_length : (n : ℕ) → (0 < length (decimal n)) × (length (decimal n) ≤ 20)
unfolding decimal
decimal_length n = (opens_some (decimal n) (decimal_opens n), digits_short 20 n)

pub decimal_same : (m n : ℕ) → m < 10 ^ 20 → n < 10 ^ 20 → decimal m ≡ decimal n → m ≡ n
decimal_same m n h k e = sym (amount_decimal m h) ∙ ap amount e ∙ amount_decimal n k

-- a number's digits do not open with the sign
unsigned : (n : ℕ) (t : List ℕ) → decimal n ≡ 45 ∷ t → ⊥
unfolding opens is_digit
unsigned n t e = true≢false (sym (decimal_opens n) ∙ ap opens e)

pub signed_same : (y z : ℤ) → nat_abs y < 10 ^ 20 → nat_abs z < 10 ^ 20 → signed y ≡ signed z → y ≡ z
unfolding signed
signed_same (pos m) (pos n) h k e = ap pos (decimal_same m n h k e)
signed_same (pos m) (negsuc n) h k e = absurd (unsigned m (decimal (suc n)) e)
signed_same (negsuc m) (pos n) h k e = absurd (unsigned n (decimal (suc m)) (sym e))
signed_same (negsuc m) (negsuc n) h k e =
    let d : suc m ≡ suc n = decimal_same (suc m) (suc n) h k (tail-eq_of_cons-eq e) in
    let c : m ≡ n = omega arith in
    ap negsuc c
