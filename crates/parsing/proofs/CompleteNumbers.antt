-- Reading numbers: digits typed, and a number in decimal.
--     Some bs                 there is a byte
--     numeral_reads           digits up to the bound are read, where no digit comes behind them
--     number_reads            .. one at least
--     digits_solid, first_digit     digits begin with no space, and with a digit
--     typed-..                a number as it is typed: its bytes are digits, one at least, and of its value
--     name_reads              a name's number in decimal is read, where no digit comes behind it
--     decimal_first           it begins with a digit
use Prim.Native.Nat.{ℕ, zero, suc, ◌+◌, ◌*◌, ◌-◌, ◌/◌, ◌%◌, ◌^◌, ◌≤◌, ◌<◌}
use mathlib.Core.Path.{◌≡◌, refl, ap, ◌∙◌}
use mathlib.Core.List.{List, [], ◌∷◌, ◌++◌, map}
use mathlib.Core.Bool.{true, false}
use native.Mathlib.Omega.{arith}
use lib.Dec.{eqb, ltb}
use borrow.Author.Tests.{le-leb, ne_eqb, ltb-true, ltb-false}
use Rattle.laws.specs.Lists.{All}
use Rattle.laws.proofs.Booleans.{by_cases}
use Rattle.laws.proofs.Characters.{digit_few, few_digit}
use Rattle.grammar.specs.Numerals.{Digits, value_from, value, digit_bytes}
use Rattle.pen.specs.Decimal.{digits, decimal}
use Rattle.pen.specs.Amounts.{Lead, amount_from, amount}
use Rattle.pen.proofs.Amounts.{amount_rises, amount_digits, digits_small, digits_large, all_digits, lead_digits}
use Rattle.laws.specs.Characters.{is_digit, first, AllDigits}
use Rattle.parsing.specs.Reader.{ok, rest, numeral, number, read_name}
use Rattle.parsing.proofs.CompleteWords.{Solid, no_space}

numeral_ends : (most v : ℕ) (u : List ℕ) → is_digit (first u) ≡ false → numeral most v u ≡ ok v u
unfolding first
numeral_ends most v [] e = refl
numeral_ends most v (b ∷ u) e = rw e

pub numeral_reads : (most v : ℕ) (bs u : List ℕ) → AllDigits bs → amount_from v bs ≤ most → is_digit (first u) ≡ false
    → numeral most v (bs ++ u) ≡ ok (amount_from v bs) u
unfolding amount_from
numeral_reads most v [] u h k e = numeral_ends most v u e
numeral_reads most v (b ∷ bs) u h k e =
    let l : v * 10 + (b - 48) ≤ most = omega (arith, amount_rises (v * 10 + (b - 48)) bs) in
    rw (h.0, le-leb (v * 10 + (b - 48)) most l) (numeral_reads most (v * 10 + (b - 48)) bs u h.1 k e)

-- at least one
abbrev pub Some : List ℕ → Type 0
Some [] = ⊥
Some (b ∷ bs) = Unit {0}

pub number_reads : (most : ℕ) (bs u : List ℕ) → Some bs → AllDigits bs → amount bs ≤ most
    → is_digit (first u) ≡ false → number most (bs ++ u) ≡ ok (amount bs) u
unfolding first
number_reads most [] u n h k e = absurd n
number_reads most (b ∷ bs) u n h k e = rw h.0 (numeral_reads most 0 (b ∷ bs) u h k e)

pub digits_solid : (bs : List ℕ) → Some bs → AllDigits bs → Solid bs
digits_solid [] n h = absurd n
digits_solid (b ∷ bs) n h = no_space b (omega (arith, digit_few b h.0))

-- digits as they are typed

mapped : (ds : List ℕ) → All (λ (d : ℕ). d < 10) ds → AllDigits (map (λ (d : ℕ). 48 + d) ds)
mapped [] h = tt
mapped (d ∷ ds) h = (few_digit (48 + d) (omega arith) (omega (arith, h.0)), mapped ds h.1)

amount_mapped : (v : ℕ) (ds : List ℕ) → amount_from v (map (λ (d : ℕ). 48 + d) ds) ≡ value_from v ds
unfolding amount_from value_from
amount_mapped v [] = refl
amount_mapped v (d ∷ ds) =
    let e : 48 + d - 48 ≡ d = omega arith in
    ap (λ x. amount_from (v * 10 + x) (map (λ (d : ℕ). 48 + d) ds)) e ∙ amount_mapped (v * 10 + d) ds

pub typed_digits : (n : Digits) → AllDigits (digit_bytes n)
unfolding digit_bytes
typed_digits n = mapped (n.first ∷ n.others) n.small

pub typed_some : (n : Digits) → Some (digit_bytes n)
unfolding digit_bytes
typed_some n = tt

pub typed_amount : (n : Digits) → amount (digit_bytes n) ≡ value n
unfolding digit_bytes value
typed_amount n = amount_mapped 0 (n.first ∷ n.others)

-- digits in decimal

-- there is a first digit, and it is not 0
name_lead : (bs u : List ℕ) → Lead bs → AllDigits bs → amount bs ≤ 65535 → is_digit (first u) ≡ false
    → read_name (bs ++ u) ≡ ok (amount bs) u
unfolding first
name_lead [] u l h k e = absurd l
name_lead (b ∷ bs) u l h k e = rw (ne_eqb b 48 l) (number_reads 65535 (b ∷ bs) u tt h k e)

name_zero : (u : List ℕ) → is_digit (first u) ≡ false → read_name (decimal 0 ++ u) ≡ ok 0 u
unfolding first rest decimal digits
name_zero u e = rw e

name_more : (n : ℕ) (u : List ℕ) → 0 < n → n ≤ 65535 → is_digit (first u) ≡ false → read_name (decimal n ++ u) ≡ ok n u
unfolding decimal
name_more n u l k e =
    let v = amount_digits 20 n (omega arith) in
    name_lead (digits 20 n) u (lead_digits 20 n l (omega arith)) (all_digits 20 n) (omega arith) e ∙ rw v

pub name_reads : (n : ℕ) (u : List ℕ) → n ≤ 65535 → is_digit (first u) ≡ false → read_name (decimal n ++ u) ≡ ok n u
name_reads zero u k e = name_zero u e
name_reads (suc n) u k e = name_more (suc n) u (omega arith) k e

-- there is a digit

some_last : (bs : List ℕ) (b : ℕ) → Some (bs ++ (b ∷ []))
some_last [] b = tt
some_last (c ∷ bs) b = tt

some_digits : (k n : ℕ) → Some (digits (suc k) n)
some_digits k n =
    by_cases (ltb n 10) (λ e. rw (digits_small k n (ltb-true n 10 e)) tt)
    (λ e. rw (digits_large k n (ltb-false n 10 e)) (some_last (digits k (n / 10)) (48 + n % 10)))

pub first_digit : (bs u : List ℕ) → Some bs → AllDigits bs → is_digit (first (bs ++ u)) ≡ true
unfolding first
first_digit [] u n h = absurd n
first_digit (b ∷ bs) u n h = h.0

pub decimal_first : (n : ℕ) (u : List ℕ) → is_digit (first (decimal n ++ u)) ≡ true
unfolding decimal
decimal_first n u = first_digit (digits 20 n) u (some_digits 19 n) (all_digits 20 n)
