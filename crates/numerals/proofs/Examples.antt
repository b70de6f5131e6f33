-- Numbers in a text, computed: bounds, leading zeros, and the place where a reader is stuck.
use mathlib.Core.Path.{◌≡◌, refl}
use mathlib.Core.List.{[], ◌∷◌}
use Rattle.laws.specs.Characters.{is_space, is_digit}
use Rattle.numerals.specs.Numerals.{is, stuck, opens, numeral_from, numeral, canonical, name_number}
use Rattle.numerals.specs.Texts.{drop_spaces, after}

-- `007+` is 7, and `+` is left
zeros : numeral 2147483647 (48 ∷ 48 ∷ 55 ∷ 43 ∷ []) ≡ is 7 (43 ∷ [])
unfolding is_digit opens numeral_from numeral
zeros = refl

-- `2147483647` is read; `2147483648` is stuck at its last digit
greatest : numeral 2147483647 (50 ∷ 49 ∷ 52 ∷ 55 ∷ 52 ∷ 56 ∷ 51 ∷ 54 ∷ 52 ∷ 55 ∷ []) ≡ is 2147483647 []
unfolding is_digit opens numeral_from numeral
greatest = refl

past_it : numeral 2147483647 (50 ∷ 49 ∷ 52 ∷ 55 ∷ 52 ∷ 56 ∷ 51 ∷ 54 ∷ 52 ∷ 56 ∷ []) ≡ stuck (56 ∷ [])
unfolding is_digit opens numeral_from numeral
past_it = refl

-- `256)` of at most 255 is stuck at the 6
fragment : numeral 255 (50 ∷ 53 ∷ 54 ∷ 41 ∷ []) ≡ stuck (54 ∷ 41 ∷ [])
unfolding is_digit opens numeral_from numeral
fragment = refl

-- nothing, and `)`: no digit
nothing : numeral 255 [] ≡ stuck []
unfolding is_digit opens numeral_from numeral
nothing = refl

no_digit : numeral 255 (41 ∷ []) ≡ stuck (41 ∷ [])
unfolding is_digit opens numeral_from numeral
no_digit = refl

-- a name's number: `0/` is 0, `07` is stuck at the 7, `65536` at its last digit
zero_name : name_number (48 ∷ 47 ∷ []) ≡ is 0 (47 ∷ [])
unfolding is_digit opens numeral_from numeral canonical name_number
zero_name = refl

leading : name_number (48 ∷ 55 ∷ []) ≡ stuck (55 ∷ [])
unfolding is_digit opens numeral_from numeral canonical name_number
leading = refl

last_name : name_number (54 ∷ 53 ∷ 53 ∷ 51 ∷ 53 ∷ []) ≡ is 65535 []
unfolding is_digit opens numeral_from numeral canonical name_number
last_name = refl

past_names : name_number (54 ∷ 53 ∷ 53 ∷ 51 ∷ 54 ∷ []) ≡ stuck (54 ∷ [])
unfolding is_digit opens numeral_from numeral canonical name_number
past_names = refl

-- a space, a tab, the end of a line, a return, then `1`
four : drop_spaces (32 ∷ 9 ∷ 10 ∷ 13 ∷ 49 ∷ []) ≡ 49 ∷ []
unfolding is_space drop_spaces
four = refl

-- `eq` of `el`: stuck at the `l`; of `e`: at the end
else_begun : after (101 ∷ 113 ∷ []) (101 ∷ 108 ∷ []) ≡ stuck (108 ∷ [])
unfolding after
else_begun = refl

cut : after (101 ∷ 113 ∷ []) (101 ∷ []) ≡ stuck []
unfolding after
cut = refl
