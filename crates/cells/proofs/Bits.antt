-- Signed numbers and their bits, at every width. `2 ^ hbits w` is the first pattern of a width that is negative.
--     read-back                  a number in its width's range, read back from its bits
--     twice_half                 a width has twice as many patterns as half
--     signed_low, signed_high    the patterns below half are themselves, the others are negative
--     signed_in                  a signed number is in its width's range
--     as_signed, read_signed     the bits of a width as a signed number, and that number read back
--     unsigned_is                the bits of a cell as a number
--     bits_same                  two numbers of a width have the same bits exactly where they are the same
use mathlib.Core.Path.{◌≡◌, refl, sym, ◌∙◌, ap, subst}
use Prim.Native.Nat.{ℕ, suc, ◌+◌, ◌-◌, ◌^◌, ◌<◌, ◌≤◌}
use native.Mathlib.Omega.{arith}
use mathlib.Core.Bool.{Bool, true, false}
use lib.Dec.{ltb, eqb}
use lib.IntN.{ℤ, pos, negsuc}
use lib.Signed.{mag}
use mir.Syntax.{Width, w8, w16, w32, w64, w128}
use mir.Val.{bits, hbits, of_z, to_z, SFits}
use mir.Facts.{to_z_pos, to_z-of_z}
use borrow.Author.Tests.{lt-ltb, le-ltb, ne_eqb, ltb-true, ltb-false}
use Rattle.cells.specs.Bytes.{signed, bits8}
use Rattle.cells.specs.Cell.{same}
use Rattle.cells.proofs.Tests.{eqb_same}

pub read_back : (w : Width) {z : ℤ} → mag z < 2 ^ hbits w → to_z w (of_z w z) ≡ z
read_back w h = to_z-of_z (record { sfits = h })

pub twice_half : (w : Width) → 2 ^ bits w ≡ 2 ^ hbits w + 2 ^ hbits w
twice_half w8 = refl
twice_half w16 = refl
twice_half w32 = refl
twice_half w64 = refl
twice_half w128 = refl

pub signed_low : (half u : ℕ) → u < half → signed half u ≡ pos u
unfolding signed
signed_low half u h = rw (lt-ltb u half h)

pub signed_high : (half u : ℕ) → half ≤ u → signed half u ≡ negsuc (half + half - 1 - u)
unfolding signed
signed_high half u h = rw (le-ltb u half h)

pub signed_in : (half u : ℕ) → u < half + half → mag (signed half u) < half
signed_in half u h = by_test (ltb u half) refl
  where
    by_test : (t : Bool) → ltb u half ≡ t → mag (signed half u) < half
    by_test true e = rw (signed_low half u (ltb-true u half e)) (ltb-true u half e)
    by_test false e =
        let k : half ≤ u = ltb-false u half e in
        rw (signed_high half u k) (omega arith)

-- the bits of a width, as a signed number
pub as_signed : (w : Width) (u : ℕ) → u < 2 ^ bits w → to_z w u ≡ signed (2 ^ hbits w) u
as_signed w u h = by_test (ltb u (2 ^ hbits w)) refl
  where
    by_test : (t : Bool) → ltb u (2 ^ hbits w) ≡ t → to_z w u ≡ signed (2 ^ hbits w) u
    by_test true e =
        let k : u < 2 ^ hbits w = ltb-true u _ e in
        to_z_pos w k ∙ sym (signed_low _ u k)
    by_test false e =
        let k : 2 ^ hbits w ≤ u = ltb-false u _ e in
        let m = 2 ^ bits w - 1 - u in
        let back : u ≡ 2 ^ bits w - suc m = omega arith in
        ap (to_z w) back
        ∙ to_z-of_z {w = w} {z = negsuc m} (record { sfits = omega (arith, twice_half w) })
        ∙ ap (λ (n : ℕ). negsuc (n - 1 - u)) (twice_half w)
        ∙ sym (signed_high _ u k)

-- what was made a signed number, read back from its bits
pub read_signed : (w : Width) {z : ℤ} (u : ℕ) → u < 2 ^ bits w → z ≡ to_z w u → to_z w (of_z w z) ≡ signed (2 ^ hbits w) u
read_signed w u h e =
    let is = e ∙ as_signed w u h in
    rw is (read_back w (signed_in _ u (subst (λ (n : ℕ). u < n) (twice_half w) h)))

pub unsigned_is : (z : ℤ) → of_z w64 z ≡ bits8 z
unfolding bits8
unsigned_is (pos n) = refl
unsigned_is (negsuc n) =
    let e : 2 ^ 64 - suc n ≡ 0xffff_ffff_ffff_ffff - n = omega arith in
    e

pub bits_same : (w : Width) (a b : ℤ) → SFits w a → SFits w b → eqb (of_z w a) (of_z w b) ≡ same a b
unfolding same
bits_same w (pos a) (pos b) h k = refl
bits_same w (pos a) (negsuc b) h k = ne_eqb a _ (omega (arith, twice_half w, h.sfits, k.sfits))
bits_same w (negsuc a) (pos b) h k = ne_eqb _ b (omega (arith, twice_half w, h.sfits, k.sfits))
bits_same w (negsuc a) (negsuc b) h k =
    eqb_same _ _ a b (λ e. omega (arith, twice_half w, h.sfits, k.sfits)) (λ e. ap (λ (n : ℕ). 2 ^ bits w - suc n) e)
