-- Bytes as characters of a text.
--     is_space b      a space, a tab or a line break: 0x20 0x09 0x0A 0x0D
--     is_digit b      0 to 9
--     is_letter b     a to z and A to Z
--     first t        the first byte of a text, 256 where there is none
--     Spaces s       every byte of s is a space
--     AllDigits s    every byte of s is a digit
use Rattle.std.specs.Prelude.{ℕ, ◌≡◌, List, [], ◌∷◌, Bool, true, ◌&&◌, ◌||◌, leb, eqb}
use Rattle.laws.specs.Lists.{All}

unfoldable pub is_space : ℕ → Bool
is_space b = eqb b 32 || eqb b 9 || eqb b 10 || eqb b 13

unfoldable pub is_digit : ℕ → Bool
is_digit b = leb 48 b && leb b 57

unfoldable pub is_letter : ℕ → Bool
is_letter b = (leb 97 b && leb b 122) || (leb 65 b && leb b 90)

unfoldable pub first : List ℕ → ℕ
first [] = 256
first (b ∷ t) = b

abbrev pub Spaces : List ℕ → Type 0
Spaces s = All (λ (b : ℕ). is_space b ≡ true) s

abbrev pub AllDigits : List ℕ → Type 0
AllDigits s = All (λ (b : ℕ). is_digit b ≡ true) s
