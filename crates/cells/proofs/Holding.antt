-- What a cell holds, by the tests that code makes.
--     range_mag, mag_range      an integer's magnitude is below 2^31, and nothing else's is
--     below_range, from_range   the two tests by which code finds that a number is an integer
--     held_negative             a negative cell outside the range holds no item
--     past_range                a cell that is neither negative nor an integer is a number from 2^31 on
--     from_here                 a cell that is not below a number is that number or one after it
--     held_integer              a cell in the range holds the integer
--     held_below                a cell below the integers holds no item
--     held_stray, held_node     what a cell past the integers holds
use Rattle.std.specs.Prelude.{Some, None}
use mathlib.Core.Path.{◌≡◌, refl, sym}
use mathlib.Core.Bool.{true, false, true≢false, false≢true}
use Prim.Native.Nat.{ℕ, ◌-◌, ◌<◌, ◌≤◌}
use native.Mathlib.Omega.{arith}
use lib.IntN.{ℤ, pos, negsuc}
use lib.Signed.{lt_z, mag}
use borrow.Author.Tests.{lt-ltb, le-ltb, le-leb, lt-leb, ne_eqb, ltb-true, ltb-false}
use Rattle.cells.specs.declared.Item.TheVariants.{Integer, Node}
use Rattle.cells.specs.Cell.{in_range, held}

pub range_mag : (z : ℤ) → in_range z ≡ true → mag z < 0x8000_0000
unfolding in_range
range_mag (pos n) e = ltb-true n 0x8000_0000 e
range_mag (negsuc n) e = ltb-true n 0x8000_0000 e

pub mag_range : (z : ℤ) → mag z < 0x8000_0000 → in_range z ≡ true
unfolding in_range
mag_range (pos n) h = lt-ltb n 0x8000_0000 h
mag_range (negsuc n) h = lt-ltb n 0x8000_0000 h

pub below_range : (z : ℤ) → lt_z z (negsuc 0x7fff_ffff) ≡ true → in_range z ≡ false
unfolding in_range
below_range (pos n) e = absurd (false≢true e)
below_range (negsuc n) e =
    let h : 0x7fff_ffff < n = ltb-true 0x7fff_ffff n e in
    le-ltb n 0x8000_0000 (omega arith)

pub from_range : (z : ℤ) → lt_z z (negsuc 0x7fff_ffff) ≡ false → lt_z z (pos 0x8000_0000) ≡ in_range z
unfolding in_range
from_range (pos n) e = refl
from_range (negsuc n) e =
    let h : n ≤ 0x7fff_ffff = ltb-false 0x7fff_ffff n e in
    sym (lt-ltb n 0x8000_0000 (omega arith))

pub held_integer : (z : ℤ) → in_range z ≡ true → held z ≡ Some (Integer z)
unfolding in_range held
held_integer (pos n) e = rw e
held_integer (negsuc n) e = rw e

pub held_below : (z : ℤ) → lt_z z (negsuc 0x7fff_ffff) ≡ true → held z ≡ None
unfolding held
held_below (pos n) e = absurd (false≢true e)
held_below (negsuc n) e =
    let h : 0x7fff_ffff < n = ltb-true 0x7fff_ffff n e in
    rw (le-ltb n 0x8000_0000 (omega arith))

pub held_negative : (z : ℤ) → in_range z ≡ false → lt_z z (pos 0) ≡ true → held z ≡ None
unfolding in_range held
held_negative (pos n) e f =
    let k : n < 0 = ltb-true n 0 f in
    absurd (omega arith)
held_negative (negsuc n) e f = rw e

pub past_range : (z : ℤ) → in_range z ≡ false → lt_z z (pos 0) ≡ false → (n : ℕ) × (z ≡ pos n) × (0x8000_0000 ≤ n)
unfolding in_range
past_range (pos n) e f = (n, refl, ltb-false n 0x8000_0000 e)
past_range (negsuc n) e f = absurd (true≢false f)

pub from_here : (m : ℕ) (z : ℤ) → lt_z z (pos m) ≡ false → (n : ℕ) × (z ≡ pos n) × (m ≤ n)
from_here m (pos n) e = (n, refl, ltb-false n m e)
from_here m (negsuc n) e = absurd (true≢false e)

module _ (n : ℕ) where
  pub held_stray : 0x8000_0000 ≤ n → (n ≡ 0x1_0000_0000 → ⊥) → (n ≡ 0x1_0000_0001 → ⊥) → n < 0x2_0000_0000
      → held (pos n) ≡ None
  unfolding held
  held_stray h f t k = rw (le-ltb n _ h, ne_eqb n _ f, ne_eqb n _ t, lt-leb _ n k)

  pub held_node : 0x2_0000_0000 ≤ n → held (pos n) ≡ Some (Node (record { 0 = n - 0x2_0000_0000 }))
  unfolding held
  held_node h =
      rw (
        le-ltb n 0x8000_0000 (omega arith),
        ne_eqb n 0x1_0000_0000 (omega arith),
        ne_eqb n 0x1_0000_0001 (omega arith),
        le-leb _ n h,
      )
