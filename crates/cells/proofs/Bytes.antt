-- Laws of the numbers in records.
--     AllBytes bs                 every byte is below 256
--     fits_le, le_fits            what fits ends within the bytes, and the other way round
--     fits_gt, gt_fits            what does not fit ends past them
--     fits_within, fits_past      what fits, at an offset that is within and at one that is past the end
--     word_step, word_one         a word of one byte more, and of one byte
--     more_bytes                  a word of one byte more stays below its power of 256
--     word_join, word_halves      two words, one after the other, as one
--     word_bound                  a word of n bytes is below 256 ^ n
--     word_agree                  two words are equal where their bytes are
--     word_append, word_after     a word in the first of two lists, and in the second
--     word_drop, word_take        a word past a start, and before an end
--     all_append, all_bytes_of     bytes put one after another, and those of a number, are bytes
--     length_bytes_of              a number as n bytes has n bytes
--     word_bytes_of                a number as n bytes reads as that number
--     word_written                the same, where other bytes stand before and after
--     int4_range, int8_mag        a signed number of four or eight bytes is in its range
--     bits8_room, signed_bits8    a cell's 64 bits, and what they read as
--     int8_bits8, int8_written    a cell as eight bytes reads as that cell, alone and among other bytes
use mathlib.Core.Path.{◌≡◌, refl, sym, ◌∙◌, ap, ap₂}
use mathlib.Core.Bool.{true, false}
use Prim.Native.Nat.{ℕ, zero, suc, ◌+◌, ◌*◌, ◌-◌, ◌/◌, ◌%◌, ◌^◌, ◌<◌, ◌≤◌}
use mathlib.Core.List.{List, [], ◌∷◌, ◌++◌}
use native.Mathlib.Nat.{pow-suc, zero-add, add-zero, add-suc, mul_assoc}
use native.Mathlib.Numerals.{add-one}
use native.Mathlib.Omega.{arith}
use lib.Dec.{leb, lit<}
use lib.IntN.{ℤ, pos, negsuc}
use lib.ListN.{length, take, drop, length-append, get_or-append}
use lib.Seq.{get_or-append-add, get_or_at, get_or-drop, get_or-take}
use lib.Signed.{mag}
use borrow.Author.Tests.{le-leb, lt-leb, leb-true, leb-false}
use Rattle.cells.specs.Bytes.{byte_at, word, fits, signed, int4, int8, bytes_of, bits8}
use Rattle.cells.specs.Cell.{in_range}
use Rattle.cells.proofs.Tests.{leb_same}
use Rattle.cells.proofs.Bits.{signed_low, signed_high, signed_in}
use Rattle.cells.proofs.Holding.{mag_range}

abbrev pub AllBytes : List ℕ → Type 0
AllBytes bs = (k : ℕ) → byte_at bs k < 256

-- what fits

module _ (bs : List ℕ) (at n : ℕ) where
  pub fits_le : fits bs at n ≡ true → at + n ≤ length bs
  unfolding fits
  fits_le e = leb-true _ _ e

  pub le_fits : at + n ≤ length bs → fits bs at n ≡ true
  unfolding fits
  le_fits h = le-leb _ _ h

  pub fits_gt : fits bs at n ≡ false → length bs < at + n
  unfolding fits
  fits_gt e = leb-false _ _ e

  pub gt_fits : length bs < at + n → fits bs at n ≡ false
  unfolding fits
  gt_fits h = lt-leb _ _ h

  pub fits_within : at ≤ length bs → leb n (length bs - at) ≡ fits bs at n
  unfolding fits
  fits_within h = leb_same n (length bs - at) (at + n) (length bs) (λ k. omega arith) (λ k. omega arith)

  pub fits_past : length bs < at → false ≡ fits bs at n
  fits_past h = sym (gt_fits (omega arith))

-- a word, byte by byte

pub word_step : (bs : List ℕ) (at n : ℕ) → word bs at (n + 1) ≡ word bs at n * 256 + byte_at bs (at + n)
unfolding word
word_step bs at n = rw add-one

pub word_one : (bs : List ℕ) (at : ℕ) → word bs at 1 ≡ byte_at bs at
unfolding word
word_one bs at = rw (add-zero at, zero-add)

pub more_bytes : (n w b : ℕ) → w < 256 ^ n → b < 256 → w * 256 + b < 256 ^ (n + 1)
more_bytes n w b h k = rw (add-one, pow-suc) (omega arith)

pub word_bound : (bs : List ℕ) → AllBytes bs → (at n : ℕ) → word bs at n < 256 ^ n
unfolding word
word_bound bs all at zero = lit< tt
word_bound bs all at (suc n) =
    rw (← add-one n) (more_bytes n (word bs at n) (byte_at bs (at + n)) (word_bound bs all at n) (all (at + n)))

pub word_join : (bs : List ℕ) (at m n : ℕ) → word bs at (m + n) ≡ word bs at m * 256 ^ n + word bs (at + m) n
unfolding word
word_join bs at m zero = rw (add-zero m) (omega arith)
word_join bs at m (suc n) =
    rw (add-suc, pow-suc)
    (ap₂ (λ (x y : ℕ). x * 256 + y) (word_join bs at m n) (ap (byte_at bs) (regroup at m n))
    ∙ spread (word bs at m) (256 ^ n) (word bs (at + m) n) (byte_at bs (at + m + n)))
  where
    regroup : (a b c : ℕ) → a + (b + c) ≡ a + b + c
    regroup a b c = omega arith

    spread : (a p b y : ℕ) → (a * p + b) * 256 + y ≡ a * (p * 256) + (b * 256 + y)
    spread a p b y = rw (← mul_assoc a p 256) (omega arith)

pub word_halves : (bs : List ℕ) (at n : ℕ) {high low : ℕ} → high ≡ word bs at n → low ≡ word bs (at + n) n
    → high * 256 ^ n + low ≡ word bs at (n + n)
word_halves bs at n d e = ap₂ (λ (x y : ℕ). x * 256 ^ n + y) d e ∙ sym (word_join bs at n n)

pub word_agree : (bs cs : List ℕ) (at to n : ℕ) → ((k : ℕ) → k < n → byte_at bs (at + k) ≡ byte_at cs (to + k))
    → word bs at n ≡ word cs to n
unfolding word
word_agree bs cs at to zero f = refl
word_agree bs cs at to (suc n) f =
    ap₂ (λ (x y : ℕ). x * 256 + y) (word_agree bs cs at to n (λ k h. f k (omega arith))) (f n (omega arith))

pub word_append : (xs ys : List ℕ) (at n : ℕ) → at + n ≤ length xs → word (xs ++ ys) at n ≡ word xs at n
word_append xs ys at n h = word_agree (xs ++ ys) xs at at n (λ k l. get_or-append xs ys 0 (at + k) (omega arith))

pub word_after : (xs ys : List ℕ) (k n : ℕ) → word (xs ++ ys) (length xs + k) n ≡ word ys k n
word_after xs ys k n =
    word_agree (xs ++ ys) ys (length xs + k) k n
    (λ i l. ap (λ (j : ℕ). byte_at (xs ++ ys) j) (regroup (length xs) k i) ∙ get_or-append-add xs ys (k + i) 0)
  where
    regroup : (a b c : ℕ) → a + b + c ≡ a + (b + c)
    regroup a b c = omega arith

pub word_drop : (a : ℕ) (xs : List ℕ) (at n : ℕ) → word (drop a xs) at n ≡ word xs (a + at) n
word_drop a xs at n =
    word_agree (drop a xs) xs at (a + at) n
    (λ k l. get_or-drop a xs (at + k) 0 ∙ ap (byte_at xs) (regroup a at k))
  where
    regroup : (a b c : ℕ) → a + (b + c) ≡ a + b + c
    regroup a b c = omega arith

pub word_take : (e : ℕ) (xs : List ℕ) (at n : ℕ) → at + n ≤ e → word (take e xs) at n ≡ word xs at n
word_take e xs at n h =
    word_agree (take e xs) xs at at n (λ k l. get_or-take e xs (at + k) 0 (omega arith))

-- a number as bytes

pub all_append : (xs ys : List ℕ) → AllBytes xs → AllBytes ys → AllBytes (xs ++ ys)
all_append [] ys f g k = g k
all_append (x ∷ xs) ys f g zero = f zero
all_append (x ∷ xs) ys f g (suc k) = all_append xs ys (λ i. f (suc i)) g k

all_one : (b : ℕ) → b < 256 → AllBytes (b ∷ [])
all_one b h zero = h
all_one b h (suc k) = lit< tt

pub all_bytes_of : (n u : ℕ) → AllBytes (bytes_of n u)
unfolding bytes_of
all_bytes_of zero u k = lit< tt
all_bytes_of (suc n) u k =
    all_append (bytes_of n (u / 256)) (u % 256 ∷ []) (all_bytes_of n (u / 256)) (all_one (u % 256) (omega arith)) k

pub length_bytes_of : (n u : ℕ) → length (bytes_of n u) ≡ n
unfolding bytes_of
length_bytes_of zero u = refl
length_bytes_of (suc n) u =
    length-append (bytes_of n (u / 256)) (u % 256 ∷ [])
    ∙ ap (λ (k : ℕ). k + 1) (length_bytes_of n (u / 256))
    ∙ add-one n

pub word_bytes_of : (n u : ℕ) → u < 256 ^ n → word (bytes_of n u) 0 n ≡ u
unfolding bytes_of word
word_bytes_of zero u h =
    let k : u < 1 = h in
    omega arith
word_bytes_of (suc n) u h =
    ap₂ (λ (x y : ℕ). x * 256 + y)
    (word_append hi lo 0 n (omega (arith, long)) ∙ word_bytes_of n (u / 256) high)
    (ap (byte_at (hi ++ lo)) (zero-add n) ∙ get_or_at hi (u % 256) [] 0 n long)
    ∙ whole
  where
    hi : List ℕ
    hi = bytes_of n (u / 256)

    lo : List ℕ
    lo = u % 256 ∷ []

    long : length hi ≡ n
    long = length_bytes_of n (u / 256)

    high : u / 256 < 256 ^ n
    high = omega (arith, rw (pow-suc 256 n) at h)

    whole : u / 256 * 256 + u % 256 ≡ u
    whole = omega arith

pub word_written : (xs ys : List ℕ) (n u : ℕ) → u < 256 ^ n → word (xs ++ (bytes_of n u ++ ys)) (length xs) n ≡ u
word_written xs ys n u h =
    ap (λ (at : ℕ). word (xs ++ (bytes_of n u ++ ys)) at n) (sym (add-zero (length xs)))
    ∙ word_after xs (bytes_of n u ++ ys) 0 n
    ∙ word_append (bytes_of n u) ys 0 n (omega (arith, length_bytes_of n u))
    ∙ word_bytes_of n u h

-- signed numbers

pub int4_range : (bs : List ℕ) → AllBytes bs → (at : ℕ) → in_range (int4 bs at) ≡ true
unfolding int4
int4_range bs all at = mag_range _ (signed_in 0x8000_0000 (word bs at 4) (word_bound bs all at 4))

pub int8_mag : (bs : List ℕ) → AllBytes bs → (at : ℕ) → mag (int8 bs at) < 2 ^ 63
unfolding int8
int8_mag bs all at = signed_in (2 ^ 63) (word bs at 8) (word_bound bs all at 8)

pub bits8_room : (z : ℤ) → mag z < 2 ^ 63 → bits8 z < 2 ^ 64
unfolding bits8
bits8_room (pos n) h = omega arith
bits8_room (negsuc n) h = omega arith

pub signed_bits8 : (z : ℤ) → mag z < 2 ^ 63 → signed (2 ^ 63) (bits8 z) ≡ z
unfolding bits8
signed_bits8 (pos n) h = signed_low (2 ^ 63) n h
signed_bits8 (negsuc n) h =
    signed_high (2 ^ 63) (0xffff_ffff_ffff_ffff - n) (omega arith) ∙ ap negsuc (back n h)
  where
    back : (n : ℕ) → n < 2 ^ 63 → 2 ^ 63 + 2 ^ 63 - 1 - (0xffff_ffff_ffff_ffff - n) ≡ n
    back n h = omega arith

pub int8_bits8 : (z : ℤ) → mag z < 2 ^ 63 → int8 (bytes_of 8 (bits8 z)) 0 ≡ z
unfolding int8
int8_bits8 z h =
    ap (signed (2 ^ 63)) (word_bytes_of 8 (bits8 z) (bits8_room z h)) ∙ signed_bits8 z h

pub int8_written : (xs ys : List ℕ) (z : ℤ) → mag z < 2 ^ 63 → int8 (xs ++ (bytes_of 8 (bits8 z) ++ ys)) (length xs) ≡ z
unfolding int8
int8_written xs ys z h =
    ap (signed (2 ^ 63)) (word_written xs ys 8 (bits8 z) (bits8_room z h)) ∙ signed_bits8 z h
