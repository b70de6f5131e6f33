-- Numbers in a text: digits, the number that they spell, and what a reader answers that takes digits up to a bound. A
-- reader works on what is left of the text.
--     Plain ds                there is a digit, and no leading zero: one byte, or the first is not `0`
--     opens t                 the text opens with a digit
--     Res A                   what a reader answers: `is a u`, a was read and u is left; `stuck u`, no text of the
--                             grammar goes on with the first byte of u
--     numeral_from most acc t  digits behind those that spell acc, while the number is at most `most`; stuck at the
--                             digit that passes it
--     numeral most t          .. at least one digit, leading zeros allowed; stuck at once where there is none
--     canonical most t        .. without a leading zero: behind a first `0`, a digit is where it is stuck
--     name_number t            .. the number of a name, at most 65535
--     Splits most acc t v u   t is digits, then u, which opens with none; behind acc they spell v, at most `most`
--     Passes most acc t u     t is digits, then u; behind acc they spell at most `most`, and u opens with the digit
--                             that passes it
use Rattle.std.specs.Prelude.{ℕ, ◌+◌, ◌*◌, ◌≤◌, ◌<◌, ◌≡◌, List, [], ◌∷◌, ◌++◌, Bool, true, false, cond, leb, eqb}
use Rattle.laws.specs.Characters.{is_digit, AllDigits}
use Rattle.pen.specs.Amounts.{digit_of, amount_from}

abbrev pub Plain : List ℕ → Type 0
Plain [] = ⊥
Plain (b ∷ []) = Unit {0}
Plain (b ∷ c ∷ ds) = b ≡ 48 → ⊥

unfoldable pub opens : List ℕ → Bool
opens [] = false
opens (b ∷ t) = is_digit b

pub data Res (A : Type 0) : Type 0 where
  is : A → List ℕ → Res A
  stuck : List ℕ → Res A

unfoldable pub numeral_from : ℕ → ℕ → List ℕ → Res ℕ
numeral_from most acc [] = is acc []
numeral_from most acc (b ∷ t) =
    cond (is_digit b)
    (cond (leb (acc * 10 + digit_of b) most) (numeral_from most (acc * 10 + digit_of b) t) (stuck (b ∷ t)))
    (is acc (b ∷ t))

unfoldable pub numeral : ℕ → List ℕ → Res ℕ
numeral most t = cond (opens t) (numeral_from most 0 t) (stuck t)

unfoldable pub canonical : ℕ → List ℕ → Res ℕ
canonical most [] = stuck []
canonical most (b ∷ t) = cond (eqb b 48) (cond (opens t) (stuck t) (is 0 t)) (numeral most (b ∷ t))

unfoldable pub name_number : List ℕ → Res ℕ
name_number t = canonical 65535 t

pub record Splits (most acc : ℕ) (t : List ℕ) (v : ℕ) (u : List ℕ) : Type 0 where
  pub read : List ℕ
  pub whole : t ≡ read ++ u
  pub digits : AllDigits read
  pub gives : v ≡ amount_from acc read
  pub held : v ≤ most
  pub ended : opens u ≡ false

pub record Passes (most acc : ℕ) (t u : List ℕ) : Type 0 where
  pub read : List ℕ
  pub byte : ℕ
  pub left : List ℕ
  pub whole : t ≡ read ++ u
  pub digits : AllDigits read
  pub held : amount_from acc read ≤ most
  pub here : u ≡ byte ∷ left
  pub digit : is_digit byte ≡ true
  pub past : most < amount_from acc read * 10 + digit_of byte
