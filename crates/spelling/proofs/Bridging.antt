-- The readers of bytes, spaces, words and numbers, by the code's definitions and by the reader's: they answer alike.
--     answered r            what the reader answers where the other answers r
--     skip_cons             spaces, by the first byte
--     skip_same             the spaces in front
--     letters_same          the bytes of a word
--     small                 bytes of a word that is known
--     digits_same           digits behind digits
--     number_same           a number of one digit at least
--     name_same             the number of a name
--     looks_first           the byte that was looked at is the first one of what is left
--     looks_there           what is left opens with the byte that was looked at
--     rest_drop             what is left behind the first byte
use Prim.Native.Nat.{ℕ, zero, suc, ◌+◌, ◌*◌, ◌-◌, ◌≤◌, ◌<◌}
use mathlib.Core.Path.{◌≡◌, refl, sym, ◌∙◌, ap}
use mathlib.Core.List.{List, [], ◌∷◌}
use mathlib.Core.Bool.{Bool, true, false, cond}
use native.Mathlib.Omega.{arith}
use native.Mathlib.Numerals.{add-one}
use lib.Dec.{ltb, leb, eqb}
use lib.ListN.{length, drop, get_or}
use Rattle.laws.specs.Lists.{all}
use borrow.Author.Tests.{ne_eqb, ltb-true}
use Rattle.laws.proofs.Booleans.{by_cases, both_true}
use Rattle.numerals.specs.Numerals as numerals
use Rattle.numerals.specs.Texts as texts
use Rattle.laws.specs.Characters.{is_space, is_digit, first}
use Rattle.parsing.specs.Reader.{Res, ok, stuck, rest, skip, letters, numeral, number, read_name}

unfoldable pub answered : {A : Type 0} → numerals.Res A → Res A
answered (numerals.is a t) = ok a t
answered (numerals.stuck t) = stuck t

pub skip_cons : (b : ℕ) (t : List ℕ) → skip (b ∷ t) ≡ cond (is_space b) (skip t) (b ∷ t)
unfolding skip
skip_cons b t = on (is_space b)
  where
    on : (s : Bool) → elim s [ true ↦ skip t | false ↦ b ∷ t ] ≡ cond s (skip t) (b ∷ t)
    on true = refl
    on false = refl

pub skip_same : (t : List ℕ) → texts.drop_spaces t ≡ skip t
unfolding texts.drop_spaces skip
skip_same [] = refl
skip_same (b ∷ t) =
    ap (λ (u : List ℕ). cond (is_space b) u (b ∷ t)) (skip_same t) ∙ sym (skip_cons b t)

pub letters_same : (cs t : List ℕ) → ((i : ℕ) → get_or cs i 0 < 256) → letters cs t ≡ answered (texts.after cs t)
unfolding texts.after answered first rest
letters_same [] t small = refl
letters_same (c ∷ cs) [] small =
    let few : c < 256 = small 0 in
    let n : 256 ≡ c → ⊥ = λ e. omega arith in
    rw (ne_eqb 256 c n)
letters_same (c ∷ cs) (b ∷ t) small =
    by_cases (eqb b c) (λ e. rw e (letters_same cs t (λ i. small (suc i)))) (λ e. rw e)

pub small : (cs : List ℕ) → all (λ (c : ℕ). ltb c 256) cs ≡ true → (i : ℕ) → get_or cs i 0 < 256
unfolding all
small [] e zero = omega arith
small [] e (suc i) = omega arith
small (c ∷ cs) e zero = ltb-true c 256 (both_true (ltb c 256) (all (λ (c : ℕ). ltb c 256) cs) e).0
small (c ∷ cs) e (suc i) = small cs (both_true (ltb c 256) (all (λ (c : ℕ). ltb c 256) cs) e).1 i

pub digits_same : (most v : ℕ) (t : List ℕ) → numeral most v t ≡ answered (numerals.numeral_from most v t)
unfolding numerals.numeral_from answered
digits_same most v [] = refl
digits_same most v (b ∷ t) =
    by_cases (is_digit b)
    (λ e.
    by_cases (leb (v * 10 + (b - 48)) most) (λ d. rw (e, d) (digits_same most (v * 10 + (b - 48)) t)) (λ d. rw (e, d)))
    (λ e. rw e)

opens_same : (t : List ℕ) → numerals.opens t ≡ is_digit (first t)
unfolding numerals.opens first is_digit
opens_same [] = refl
opens_same (b ∷ t) = refl

pub number_same : (most : ℕ) (t : List ℕ) → number most t ≡ answered (numerals.numeral most t)
unfolding numerals.numeral answered
number_same most t =
    rw (opens_same t) (by_cases (is_digit (first t)) (λ e. rw e (digits_same most 0 t)) (λ e. rw e))

pub name_same : (t : List ℕ) → read_name t ≡ answered (numerals.name_number t)
unfolding numerals.name_number numerals.canonical answered first rest is_digit
name_same [] = refl
name_same (b ∷ t) =
    by_cases (eqb b 48)
    (λ e. rw (e, opens_same t) (by_cases (is_digit (first t)) (λ d. rw d) (λ d. rw d)))
    (λ e. rw e (number_same 65535 (b ∷ t)))

module _ (text : List ℕ) (at b : ℕ) (looks : texts.Looks text at b) where
  pub looks_first : first (drop at text) ≡ b
  looks_first = sym looks.reads

  pub looks_there : (k : ℕ) → b ≡ k → k < 256 → (at + 1 ≤ length text) × (drop at text ≡ k ∷ drop (at + 1) text)
  looks_there k e h =
      let l = looks.there (omega arith) in
      (omega (arith, l.0), rw (sym e) l.1)

rest_suc : (text : List ℕ) (at : ℕ) → rest (drop at text) ≡ drop (suc at) text
unfolding rest
rest_suc [] zero = refl
rest_suc [] (suc n) = refl
rest_suc (b ∷ t) zero = refl
rest_suc (b ∷ t) (suc n) = rest_suc t n

pub rest_drop : (text : List ℕ) (at : ℕ) → rest (drop at text) ≡ drop (at + 1) text
rest_drop text at = rw add-one (rest_suc text at)
