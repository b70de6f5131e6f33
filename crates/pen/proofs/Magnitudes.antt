-- An integer in decimal, by its sign.
--     signed_minus, signed_plain     an integer in decimal, by its sign
use Prim.Native.Nat.{ℕ}
use mathlib.Core.Path.{◌≡◌, refl, ap, ◌∙◌}
use mathlib.Core.List.{◌++◌}
use mathlib.Core.Bool.{true, false, true≢false}
use native.Mathlib.Omega.{arith}
use lib.IntN.{ℤ, pos, negsuc, nat_abs}
use lib.Signed.{lt_z}
use borrow.Author.Tests.{ltb-true}
use Rattle.pen.specs.Decimal.{decimal, signed, minus}

module _ (z v : ℤ) (n : ℕ) (e : v ≡ z) (d : n ≡ nat_abs v) where
  pub signed_minus : lt_z v (pos 0) ≡ true → minus ++ decimal n ≡ signed z
  unfolding signed
  signed_minus h = ap (λ (m : ℕ). minus ++ decimal m) d ∙ by_sign v h ∙ ap signed e
    where
      by_sign : (v : ℤ) → lt_z v (pos 0) ≡ true → minus ++ decimal (nat_abs v) ≡ signed v
      by_sign (pos n) h =
          let k = ltb-true n 0 h in
          absurd (omega arith)
      by_sign (negsuc n) h = refl

  pub signed_plain : lt_z v (pos 0) ≡ false → decimal n ≡ signed z
  unfolding signed
  signed_plain h = ap decimal d ∙ by_sign v h ∙ ap signed e
    where
      by_sign : (v : ℤ) → lt_z v (pos 0) ≡ false → decimal (nat_abs v) ≡ signed v
      by_sign (pos n) h = refl
      by_sign (negsuc n) h = absurd (true≢false h)
