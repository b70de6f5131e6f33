-- What the checked operations give: the sum, difference, product and quotient of two integers.
--     bits_positive                the bits of a number other than zero are not zero
--     checked                      a checked operation gives its result, where that is an integer
--     checked_quotient             the quotient, where the divisor is not zero and it is an integer
use Rattle.std.specs.Prelude.{Option, Some, None}
use Rattle.std.specs.Option.{SomeIff}
use Rattle.std.specs.Int.{CanDivide}
use mathlib.Core.Path.{◌≡◌, refl, sym, ◌∙◌, ap}
use mathlib.Core.Bool.{Bool, true, false}
use Prim.Native.Nat.{zero, suc, ◌<◌}
use native.Mathlib.Omega.{arith}
use lib.Dec.{eqb-suc-zero}
use lib.IntN.{ℤ, pos, negsuc, nat_abs}
use lib.Signed.{quot_z}
use mir.Syntax.{Width, w32}
use mir.Val.{SFits, of_z}
use Rattle.cells.specs.Cell.{in_range, same}
use Rattle.cells.specs.Arithmetic.{number_of, quotient_of}
use Rattle.cells.proofs.Bits.{twice_half}
use Rattle.cells.proofs.Holding.{range_mag, mag_range}

pub bits_positive : (w : Width) (z : ℤ) → SFits w z → (z ≡ pos 0 → ⊥) → 0 < of_z w z
bits_positive w (pos zero) h f = absurd (f refl)
bits_positive w (pos (suc n)) h f = omega arith
bits_positive w (negsuc n) h f = omega (arith, h.sfits, twice_half w)

number_in : (z : ℤ) → in_range z ≡ true → number_of z ≡ Some z
unfolding number_of
number_in z e = rw e

number_out : (z : ℤ) → in_range z ≡ false → number_of z ≡ None
unfolding number_of
number_out z e = rw e

pub checked : (z : ℤ) (r : Option ℤ) → SomeIff r (SFits w32 z) z → r ≡ number_of z
checked z (Some x) f = ap Some f.1 ∙ sym (number_in z (mag_range z f.0.sfits))
checked z None f = sym (number_out z (by_test (in_range z) refl))
  where
    by_test : (t : Bool) → in_range z ≡ t → t ≡ false
    by_test true e = absurd (f (record { sfits = range_mag z e }))
    by_test false e = refl

without : {P : Type 0} (Q : Type 0) (z : ℤ) (r : Option ℤ) → P → SomeIff r (P × Q) z → SomeIff r Q z
without Q z (Some x) p f = (f.0.1, f.1)
without Q z None p f = λ q. f (p, q)

by_zero : (x : ℤ) (r : Option ℤ) → SomeIff r (CanDivide w32 x (pos 0)) (quot_z x (pos 0)) → r ≡ None
by_zero x (Some z) f = absurd (omega (arith, f.0.0))
by_zero x None f = refl

pub checked_quotient :
    (x y : ℤ) (r : Option ℤ) → SFits w32 y → SomeIff r (CanDivide w32 x y) (quot_z x y) → r ≡ quotient_of x y
unfolding quotient_of same
checked_quotient x (pos zero) r h f = by_zero x r f
checked_quotient x (pos (suc n)) r h f =
    rw (eqb-suc-zero n)
    (checked _ r (without _ _ r (bits_positive w32 (pos (suc n)) h (λ e. omega (arith, ap nat_abs e))) f))
checked_quotient x (negsuc n) r h f = checked _ r (without _ _ r (bits_positive w32 (negsuc n) h (λ e. omega (arith, ap nat_abs e))) f)

-- the marked examples 2 and 3 of document 01

minus_seven_by_two : quotient_of (negsuc 6) (pos 2) ≡ Some (negsuc 2)
unfolding quotient_of number_of in_range same
minus_seven_by_two = refl

least_by_minus_one : quotient_of (negsuc 0x7fff_ffff) (negsuc 0) ≡ None
unfolding quotient_of number_of in_range same
least_by_minus_one = refl
