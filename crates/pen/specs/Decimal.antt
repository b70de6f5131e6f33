-- Numbers in decimal, a list of bytes, each the ASCII number of a character (document 01, 'Marked examples', from
-- 'Program `chartask`' on).
--     minus           the sign
--     digits k n      n in decimal, k digits at most
--     decimal n       n in decimal: twenty digits are enough for 64 bits
--     signed z        .. with its sign
use Rattle.std.specs.Prelude.{ℕ, zero, suc, ◌+◌, ◌/◌, ◌%◌, List, [], ◌∷◌, ◌++◌, cond, ltb, ℤ, pos, negsuc}

abbrev pub minus : List ℕ
minus = 45 ∷ []

unfoldable pub digits : ℕ → ℕ → List ℕ
digits zero n = []
digits (suc k) n = cond (ltb n 10) ((48 + n) ∷ []) (digits k (n / 10) ++ ((48 + n % 10) ∷ []))

unfoldable pub decimal : ℕ → List ℕ
decimal n = digits 20 n

unfoldable pub signed : ℤ → List ℕ
signed (pos n) = decimal n
signed (negsuc n) = minus ++ decimal (suc n)
