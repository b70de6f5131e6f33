-- One turn of each loop over a text, by the byte that was looked at, and the same for the functions without a loop.
--     space_on, space_off, space_none     a space is passed; nothing else is; at the end there is none
--     digit_there              a digit that was looked at stands in the text
--     digit_on, digit_past, digit_off, digit_none     a digit is taken; it passes the bound; there is none; nor at the
--                              end
--     number_on, number_off    a number opens with a digit; or reading is stuck at once
--     no_zero, zero_alone, zero_more     no zero in front: as any number; a zero, and no digit behind it; and a digit
--     same_on, same_off, same_end     a word's byte is there; another is; all are there
use Prim.Native.Nat.{ℕ, ◌+◌, ◌*◌, ◌-◌, ◌≤◌, ◌<◌}
use mathlib.Core.Path.{◌≡◌, sym}
use mathlib.Core.List.{List, [], ◌∷◌}
use mathlib.Core.Bool.{true, false}
use native.Mathlib.Omega.{arith}
use native.Mathlib.Numerals.{add-one}
use lib.ListN.{length, drop, get_or, drop_of_length-le}
use lib.Seq.{drop-cons}
use borrow.Author.Tests.{le-leb, lt-leb, eq-eqb, ne_eqb}
use Rattle.laws.specs.Characters.{is_space, is_digit}
use Rattle.numerals.specs.Numerals.{opens, is, stuck, numeral_from, numeral, canonical}
use Rattle.numerals.specs.Texts.{drop_spaces, after, Looks}
use Rattle.laws.proofs.Characters.{digit_few}
use Rattle.numerals.proofs.Bytes.{space_few, by_look, opens_looks}

module _ (text : List ℕ) (i b : ℕ) (looks : Looks text i b) where
  pub space_on : is_space b ≡ true
      → (i < length text) × (drop_spaces (drop i text) ≡ drop_spaces (drop (i + 1) text))
  unfolding drop_spaces
  space_on e =
      let k = looks.there (space_few b e) in
      (k.0, rw (k.1, e))

  pub space_off : is_space b ≡ false → drop_spaces (drop i text) ≡ drop i text
  unfolding drop_spaces
  space_off e = by_look text i b looks (λ l k. rw (k, e)) (λ l k. rw k)

  pub digit_there : is_digit b ≡ true → (i < length text) × (drop i text ≡ b ∷ drop (i + 1) text)
  digit_there e = looks.there (omega (arith, digit_few b e))

  module _ (most n : ℕ) where
    pub digit_on : is_digit b ≡ true → n * 10 + (b - 48) ≤ most
        → numeral_from most n (drop i text) ≡ numeral_from most (n * 10 + (b - 48)) (drop (i + 1) text)
    unfolding numeral_from
    digit_on e h = rw ((digit_there e).1, e, le-leb (n * 10 + (b - 48)) most h)

    pub digit_past : is_digit b ≡ true → most < n * 10 + (b - 48)
        → numeral_from most n (drop i text) ≡ stuck (drop i text)
    unfolding numeral_from
    digit_past e h = rw ((digit_there e).1, e, lt-leb (n * 10 + (b - 48)) most h)

    pub digit_off : is_digit b ≡ false → numeral_from most n (drop i text) ≡ is n (drop i text)
    unfolding numeral_from
    digit_off e = by_look text i b looks (λ l k. rw (k, e)) (λ l k. rw k)

  module _ (most : ℕ) where
    pub number_on : is_digit b ≡ true → numeral most (drop i text) ≡ numeral_from most 0 (drop i text)
    unfolding numeral
    number_on e = rw (opens_looks text i b looks, e)

    pub number_off : is_digit b ≡ false → numeral most (drop i text) ≡ stuck (drop i text)
    unfolding numeral
    number_off e = rw (opens_looks text i b looks, e)

    pub no_zero : (b ≡ 48 → ⊥) → canonical most (drop i text) ≡ numeral most (drop i text)
    unfolding canonical numeral opens
    no_zero h = by_look text i b looks (λ l k. rw (k, ne_eqb b 48 h)) (λ l k. rw k)

    module _ (zero-there : b ≡ 48) (c : ℕ) (next : Looks text (i + 1) c) where
      opened : drop i text ≡ 48 ∷ drop (i + 1) text
      opened = rw (sym zero-there) (looks.there (omega arith)).1

      pub zero_more : is_digit c ≡ true → canonical most (drop i text) ≡ stuck (drop (i + 1) text)
      unfolding canonical
      zero_more e = rw (opened, opens_looks text (i + 1) c next, e)

      pub zero_alone : is_digit c ≡ false → canonical most (drop i text) ≡ is 0 (drop (i + 1) text)
      unfolding canonical
      zero_alone e = rw (opened, opens_looks text (i + 1) c next, e)

  module _ (rest : List ℕ) (j w : ℕ) (wanted : w ≡ get_or rest j 0) (few : w < 256) (within : j < length rest) where
    wanted_there : drop j rest ≡ w ∷ drop (j + 1) rest
    wanted_there = rw (wanted, add-one, drop-cons rest j 0)

    pub same_on : b ≡ w
        → (i < length text)
        × (after (drop j rest) (drop i text) ≡ after (drop (j + 1) rest) (drop (i + 1) text))
    unfolding after
    same_on e =
        by_look text i b looks (λ l k. (l, rw (k, wanted_there, eq-eqb b w e))) (λ l k. absurd (omega arith))

    pub same_off : (b ≡ w → ⊥) → after (drop j rest) (drop i text) ≡ stuck (drop i text)
    unfolding after
    same_off h = by_look text i b looks (λ l k. rw (k, wanted_there, ne_eqb b w h)) (λ l k. rw (k, wanted_there))

-- at the end of what is looked through
module _ (text : List ℕ) (i : ℕ) (ended : i ≡ length text) where
  left_none : drop i text ≡ []
  left_none = let h : length text ≤ i = omega arith in drop_of_length-le text h

  whole_none : drop (length text) text ≡ []
  whole_none = rw (sym ended) left_none

  pub space_none : drop_spaces (drop i text) ≡ drop (length text) text
  unfolding drop_spaces
  space_none = rw (left_none, whole_none)

  pub digit_none : (most n : ℕ) → numeral_from most n (drop i text) ≡ is n (drop (length text) text)
  unfolding numeral_from
  digit_none most n = rw (left_none, whole_none)

  pub same_end : (other : List ℕ) (p : ℕ)
      → after (drop i text) (drop (p + i) other) ≡ is tt (drop (p + length text) other)
  unfolding after
  same_end other p = rw (left_none, ended)
