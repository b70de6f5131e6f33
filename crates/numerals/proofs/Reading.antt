-- What the readers of numbers read, of a text that is digits and what follows them.
--     from_reads, from_past          digits up to the bound, then no digit; then a digit that passes it
--     numeral_reads, numeral_past    .. by a number's reader
--     canonical_reads, canonical_past    .. by the reader of numbers without a leading zero
--     numeral_decimal, canonical_decimal, name_decimal     a number in decimal is read, whatever follows but a digit
use Prim.Native.Nat.{ℕ, ◌+◌, ◌*◌, ◌^◌, ◌≤◌, ◌<◌}
use mathlib.Core.Path.{◌≡◌, refl, ◌∙◌}
use mathlib.Core.List.{List, [], ◌∷◌, ◌++◌}
use mathlib.Core.Bool.{true, false}
use native.Mathlib.Omega.{arith}
use lib.Dec.{eqb}
use borrow.Author.Tests.{le-leb, lt-leb, eqb-true, ne_eqb}
use Rattle.laws.proofs.Booleans.{by_cases}
use Rattle.pen.specs.Decimal.{decimal}
use Rattle.laws.specs.Characters.{is_digit, AllDigits}
use Rattle.pen.specs.Amounts.{Lead, digit_of, amount_from, amount}
use Rattle.pen.proofs.Amounts.{amount_rises}
use Rattle.numerals.specs.Numerals.{Plain, opens}
use Rattle.numerals.specs.Numerals.{is, stuck, numeral_from, numeral, canonical, name_number}
use Rattle.numerals.proofs.Amounts.{
  amount_decimal,
  decimal_digits,
  decimal_opens,
  decimal_plain,
  opens_append,
}

pub from_reads : (most acc : ℕ) (ds u : List ℕ) → AllDigits ds → amount_from acc ds ≤ most → opens u ≡ false
    → numeral_from most acc (ds ++ u) ≡ is (amount_from acc ds) u
unfolding amount_from numeral_from opens
from_reads most acc [] [] h k e = refl
from_reads most acc [] (b ∷ u) h k e = rw e
from_reads most acc (b ∷ ds) u h k e =
    let l : acc * 10 + digit_of b ≤ most = omega (arith, amount_rises (acc * 10 + digit_of b) ds) in
    rw (h.0, le-leb (acc * 10 + digit_of b) most l) (from_reads most (acc * 10 + digit_of b) ds u h.1 k e)

pub from_past : (most acc : ℕ) (ds : List ℕ) (b : ℕ) (w : List ℕ) → AllDigits ds → amount_from acc ds ≤ most
    → is_digit b ≡ true → most < amount_from acc ds * 10 + digit_of b
    → numeral_from most acc (ds ++ (b ∷ w)) ≡ stuck (b ∷ w)
unfolding amount_from numeral_from
from_past most acc [] b w h k d p = rw (d, lt-leb (acc * 10 + digit_of b) most p)
from_past most acc (a ∷ ds) b w h k d p =
    let l : acc * 10 + digit_of a ≤ most = omega (arith, amount_rises (acc * 10 + digit_of a) ds) in
    rw (h.0, le-leb (acc * 10 + digit_of a) most l) (from_past most (acc * 10 + digit_of a) ds b w h.1 k d p)

pub numeral_reads : (most : ℕ) (ds u : List ℕ) → opens ds ≡ true → AllDigits ds → amount ds ≤ most → opens u ≡ false
    → numeral most (ds ++ u) ≡ is (amount ds) u
unfolding numeral
numeral_reads most ds u o h k e = rw (opens_append ds u o) (from_reads most 0 ds u h k e)

-- digits, then a digit: the text opens with one
opens_past : (ds : List ℕ) (b : ℕ) (w : List ℕ) → AllDigits ds → is_digit b ≡ true → opens (ds ++ (b ∷ w)) ≡ true
unfolding opens
opens_past [] b w h d = d
opens_past (a ∷ ds) b w h d = h.0

pub numeral_past : (most : ℕ) (ds : List ℕ) (b : ℕ) (w : List ℕ) → AllDigits ds → amount ds ≤ most
    → is_digit b ≡ true → most < amount ds * 10 + digit_of b
    → numeral most (ds ++ (b ∷ w)) ≡ stuck (b ∷ w)
unfolding numeral
numeral_past most ds b w h k d p = rw (opens_past ds b w h d) (from_past most 0 ds b w h k d p)

pub numeral_decimal : (most n : ℕ) (u : List ℕ) → n ≤ most → n < 10 ^ 20 → opens u ≡ false
    → numeral most (decimal n ++ u) ≡ is n u
numeral_decimal most n u k h e =
    let v = amount_decimal n h in
    numeral_reads most (decimal n) u (decimal_opens n) (decimal_digits n) (omega arith) e ∙ rw v

pub canonical_reads : (most : ℕ) (ds u : List ℕ) → Plain ds → AllDigits ds → amount ds ≤ most → opens u ≡ false
    → canonical most (ds ++ u) ≡ is (amount ds) u
unfolding canonical amount_from opens
canonical_reads most [] u p h k e = absurd p
canonical_reads most (b ∷ []) u p h k e =
    by_cases (eqb b 48)
    (λ z. let d : b ≡ 48 = eqb-true b 48 z in rw (d, e))
    (λ z. rw z (numeral_reads most (b ∷ []) u h.0 h k e))
canonical_reads most (b ∷ c ∷ ds) u p h k e =
    rw (ne_eqb b 48 p) (numeral_reads most (b ∷ c ∷ ds) u h.0 h k e)

-- of a text without a zero in front
canonical_numeral : (most : ℕ) (t : List ℕ) → Lead t → canonical most t ≡ numeral most t
unfolding canonical
canonical_numeral most [] h = absurd h
canonical_numeral most (b ∷ t) h = rw (ne_eqb b 48 h)

pub canonical_past : (most : ℕ) (ds : List ℕ) (b : ℕ) (w : List ℕ) → Lead (ds ++ (b ∷ w)) → AllDigits ds
    → amount ds ≤ most → is_digit b ≡ true → most < amount ds * 10 + digit_of b
    → canonical most (ds ++ (b ∷ w)) ≡ stuck (b ∷ w)
canonical_past most ds b w l h k d p =
    canonical_numeral most (ds ++ (b ∷ w)) l ∙ numeral_past most ds b w h k d p

pub canonical_decimal : (most n : ℕ) (u : List ℕ) → n ≤ most → n < 10 ^ 20 → opens u ≡ false
    → canonical most (decimal n ++ u) ≡ is n u
canonical_decimal most n u k h e =
    let v = amount_decimal n h in
    canonical_reads most (decimal n) u (decimal_plain n h) (decimal_digits n) (omega arith) e ∙ rw v

pub name_decimal : (n : ℕ) (u : List ℕ) → n ≤ 65535 → opens u ≡ false → name_number (decimal n ++ u) ≡ is n u
unfolding name_number
name_decimal n u k e = canonical_decimal 65535 n u k (omega arith) e
