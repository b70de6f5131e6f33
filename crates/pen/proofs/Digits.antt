-- Numbers in decimal, digit by digit.
--     digits_none, digits_one, digits_more     no digit, one, and the last behind the others
--     digits_short, decimal_short              how many digits there are at most
--     signed_short                             .. with the sign
--     digits_end, decimal_end, signed_end      where they end, written over lent bytes
use Prim.Native.Nat.{ℕ, zero, suc, ◌+◌, ◌-◌, ◌/◌, ◌%◌, ◌≤◌, ◌<◌}
use mathlib.Core.Path.{◌≡◌, sym, ap, ap₂, ◌∙◌}
use mathlib.Core.List.{List, [], ◌∷◌, ◌++◌}
use mathlib.Core.Bool.{Bool, true, false, cond}
use native.Mathlib.Omega.{arith}
use lib.Dec.{ltb}
use lib.IntN.{ℤ, pos, negsuc}
use lib.ListN.{length, length-append}
use borrow.Author.Tests.{lt-ltb, le-ltb}
use Rattle.pen.specs.Penned.{Pens}
use Rattle.pen.specs.Decimal.{digits, decimal, signed}

pub digits_none : (k n : ℕ) → k ≡ 0 → [] ≡ digits k n
unfolding digits
digits_none k n e = sym (ap (λ (j : ℕ). digits j n) e)

pub digits_one : (k n b : ℕ) → 0 < k → n < 10 → b ≡ 48 + n → b ∷ [] ≡ digits k n
unfolding digits
digits_one zero n b h l e = absurd (omega arith)
digits_one (suc k) n b h l e = ap (◌∷ []) e ∙ sym (rw (lt-ltb n 10 l))

pub digits_more : (k n b : ℕ) → 0 < k → 10 ≤ n → b ≡ 48 + n % 10 → digits (k - 1) (n / 10) ++ (b ∷ []) ≡ digits k n
unfolding digits
digits_more zero n b h l e = absurd (omega arith)
digits_more (suc k) n b h l e =
    let d : suc k - 1 ≡ k = omega arith in
    ap₂ (λ (j : ℕ) (c : ℕ). digits j (n / 10) ++ (c ∷ [])) d e ∙ sym (rw (le-ltb n 10 l))

-- one digit, or one more than those before the last
either_short : (t : Bool) (a b k : ℕ) (ds : List ℕ) → length ds ≤ k → length (cond t (a ∷ []) (ds ++ (b ∷ []))) ≤ suc k
either_short true a b k ds h = omega arith
either_short false a b k ds h = omega (arith, length-append ds (b ∷ []))

pub digits_short : (k n : ℕ) → length (digits k n) ≤ k
unfolding digits
digits_short zero n = omega arith
digits_short (suc k) n = either_short (ltb n 10) _ _ k (digits k (n / 10)) (digits_short k (n / 10))

pub decimal_short : (n : ℕ) → length (decimal n) ≤ 20
unfolding decimal
decimal_short n = digits_short 20 n

pub signed_short : (z : ℤ) → length (signed z) ≤ 21
unfolding signed
signed_short (pos n) = omega (arith, decimal_short n)
signed_short (negsuc n) = omega (arith, decimal_short (suc n))

module _ {at m : ℕ} {before after : List ℕ} where
  pub digits_end : (k n : ℕ) → Pens at (digits k n) before after m → m ≤ at + k
  digits_end k n p = omega (arith, p.ends, digits_short k n)

  pub decimal_end : (n : ℕ) → Pens at (decimal n) before after m → m ≤ at + 20
  decimal_end n p = omega (arith, p.ends, decimal_short n)

  pub signed_end : (z : ℤ) → Pens at (signed z) before after m → m ≤ at + 21
  signed_end z p = omega (arith, p.ends, signed_short z)
