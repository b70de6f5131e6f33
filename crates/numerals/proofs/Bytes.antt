-- Laws of digits, spaces, and the byte at an offset.
--     space_few           a space is a byte
--     looks_byte          the byte at an offset of the text
--     looks_end           .. at its end
--     by_look             what was looked at is a byte, in front of what is left; or nothing is left
--     opens_looks         what is left opens with a digit exactly where the byte there is one
use Prim.Native.Nat.{ℕ, ◌+◌, ◌≤◌, ◌<◌}
use mathlib.Core.Path.{◌≡◌, refl}
use mathlib.Core.List.{List, [], ◌∷◌}
use mathlib.Core.Bool.{Bool, true, false, ◌||◌}
use native.Mathlib.Omega.{arith}
use native.Mathlib.Numerals.{add-one}
use lib.Dec.{ltb, eqb}
use lib.ListN.{length, drop, get_or, drop_of_length-le}
use lib.Seq.{drop-cons}
use borrow.Author.Tests.{eqb-true, ltb-true, ltb-false}
use Rattle.laws.proofs.Booleans.{by_cases}
use Rattle.laws.specs.Characters.{is_space, is_digit, first}
use Rattle.numerals.specs.Numerals.{opens}
use Rattle.numerals.specs.Texts.{Looks}

-- of four tests that are one true, some number is met
met : (b : ℕ) (p q r s : Bool) → (p ≡ true → b < 256) → (q ≡ true → b < 256) → (r ≡ true → b < 256)
    → (s ≡ true → b < 256) → (p || q || r || s) ≡ true → b < 256
met b true q r s f g h k e = f refl
met b false true r s f g h k e = g refl
met b false false true s f g h k e = h refl
met b false false false s f g h k e = k e

is_few : (b n : ℕ) → n < 256 → eqb b n ≡ true → b < 256
is_few b n h e = let d : b ≡ n = eqb-true b n e in omega arith

pub space_few : (b : ℕ) → is_space b ≡ true → b < 256
unfolding is_space
space_few b e =
    met b (eqb b 32) (eqb b 9) (eqb b 10) (eqb b 13) (is_few b 32 (omega arith)) (is_few b 9 (omega arith))
    (is_few b 10 (omega arith))
    (is_few b 13 (omega arith))
    e

pub looks_byte : (text : List ℕ) (at : ℕ) → at < length text → get_or text at 0 < 256 → Looks text at (get_or text at 0)
unfolding first
looks_byte text at h k =
    let e : drop at text ≡ get_or text at 0 ∷ drop (at + 1) text = rw (add-one, drop-cons text at 0) in
    record {
      reads = rw e;
      few = omega arith;
      there = λ l. (h, e);
      ended = λ l. absurd (omega arith);
    }

pub looks_end : (text : List ℕ) (at : ℕ) → length text ≤ at → Looks text at 256
unfolding first
looks_end text at h =
    let e : drop at text ≡ [] = drop_of_length-le text h in
    record { reads = rw e; few = omega arith; there = λ l. absurd (omega arith); ended = λ l. (h, e) }

pub by_look : {P : Type 0} (text : List ℕ) (at b : ℕ) → Looks text at b
    → (at < length text → drop at text ≡ b ∷ drop (at + 1) text → P)
    → (b ≡ 256 → drop at text ≡ [] → P)
    → P
by_look text at b looks f g =
    by_cases (ltb b 256) (λ e. let k = looks.there (ltb-true b 256 e) in f k.0 k.1)
    (λ e.
    let h : 256 ≤ b = ltb-false b 256 e in
    g (omega (arith, looks.few)) (looks.ended h).1)

pub opens_looks : (text : List ℕ) (at b : ℕ) → Looks text at b → opens (drop at text) ≡ is_digit b
unfolding opens is_digit
opens_looks text at b looks = by_look text at b looks (λ h e. rw e) (λ h e. rw (e, h))
