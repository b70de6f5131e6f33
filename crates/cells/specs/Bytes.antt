-- Numbers in records are big-endian (document 01, 'Items and cells').
--     byte_at bs at     the byte at an offset, 0 past the end
--     Bytes bs         every member is a byte: below 256
--     word bs at n     the n bytes from an offset on, as one number
--     signed half u    the signed number whose bits are u, where half is the first pattern that is negative
--     int4 bs at       the four bytes from an offset on, signed
--     int8 bs at       the eight bytes from an offset on, signed
--     fits bs at n     the n bytes from an offset on are all there
--     bytes_of n u      a number as n bytes
--     bits8 z          the 64 bits of a cell
use Rattle.std.specs.Prelude.{ℕ, zero, suc, ◌+◌, ◌*◌, ◌-◌, ◌/◌, ◌%◌, ◌<◌, List, [], ◌∷◌, ◌++◌, Bool, cond, ltb, leb, ℤ, pos, negsuc, length, get_or}

abbrev pub byte_at : List ℕ → ℕ → ℕ
byte_at bs at = get_or bs at 0

abbrev pub Bytes : List ℕ → Type 0
Bytes bs = (i : ℕ) → byte_at bs i < 256

unfoldable pub word : List ℕ → ℕ → ℕ → ℕ
word bs at zero = 0
word bs at (suc n) = word bs at n * 256 + byte_at bs (at + n)

unfoldable pub signed : ℕ → ℕ → ℤ
signed half u = cond (ltb u half) (pos u) (negsuc (half + half - 1 - u))

unfoldable pub int4 : List ℕ → ℕ → ℤ
int4 bs at = signed 0x8000_0000 (word bs at 4)

unfoldable pub int8 : List ℕ → ℕ → ℤ
int8 bs at = signed 0x8000_0000_0000_0000 (word bs at 8)

unfoldable pub fits : List ℕ → ℕ → ℕ → Bool
fits bs at n = leb (at + n) (length bs)

unfoldable pub bytes_of : ℕ → ℕ → List ℕ
bytes_of zero u = []
bytes_of (suc n) u = bytes_of n (u / 256) ++ (u % 256 ∷ [])

unfoldable pub bits8 : ℤ → ℕ
bits8 (pos n) = n
bits8 (negsuc n) = 0xffff_ffff_ffff_ffff - n
