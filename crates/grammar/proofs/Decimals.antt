-- Numbers in decimal are digits of the grammar.
--     Numeral n t         t is digits that spell n
--     value_append        the value of two stretches of digits, one behind the other
--     numeral_one, numeral_more     a number below ten; one digit more
--     numeral             a number in decimal is digits that spell it
--     digits_few          a number below 10 ^ j has at most j digits
--     name_few            an element's number has at most five
use Prim.Native.Nat.{ℕ, zero, suc, ◌+◌, ◌*◌, ◌/◌, ◌%◌, ◌^◌, ◌≤◌, ◌<◌}
use mathlib.Core.Path.{◌≡◌, refl, sym, ap, ◌∙◌, subst}
use mathlib.Core.List.{List, [], ◌∷◌, ◌++◌}
use native.Mathlib.Omega.{arith}
use lib.Dec.{ltb}
use lib.ListN.{length, length-append}
use borrow.Author.Tests.{ltb-true, ltb-false}
use Rattle.laws.proofs.Booleans.{by_cases}
use Rattle.laws.proofs.Lists.{all_append}
use Rattle.laws.proofs.Filters.{map_append}
use Rattle.grammar.specs.Numerals.{Digits, value_from, value, digit_bytes}
use Rattle.pen.specs.Decimal.{digits, decimal}
use Rattle.pen.proofs.Amounts.{digits_small, digits_large, tenth_below}

pub record Numeral (n : ℕ) (t : List ℕ) : Type 0 where
  pub figures : Digits
  pub valued : value figures ≡ n
  pub spelled : digit_bytes figures ≡ t

pub value_append : (v : ℕ) (ds es : List ℕ) → value_from v (ds ++ es) ≡ value_from (value_from v ds) es
unfolding value_from
value_append v [] es = refl
value_append v (d ∷ ds) es = value_append (v * 10 + d) ds es

pub numeral_one : (n : ℕ) → n < 10 → Numeral n ((48 + n) ∷ [])
unfolding value value_from digit_bytes
numeral_one n h =
    record { figures = record { first = n; others = []; small = (h, tt) }; valued = omega arith; spelled = refl }

pub numeral_more : {n : ℕ} {t : List ℕ} (d : ℕ) → d < 10 → Numeral n t → Numeral (n * 10 + d) (t ++ ((48 + d) ∷ []))
unfolding value value_from digit_bytes
numeral_more {n} {t} d h m =
    let first = m.figures.first in
    let others = m.figures.others in
    record {
      figures =
          record {
            first = first;
            others = others ++ (d ∷ []);
            small = all_append (λ (e : ℕ). e < 10) (first ∷ others) (d ∷ []) m.figures.small (h, tt);
          };
      valued = value_append 0 (first ∷ others) (d ∷ []) ∙ ap (λ (v : ℕ). v * 10 + d) m.valued;
      spelled =
          map_append (λ (e : ℕ). 48 + e) (first ∷ others) (d ∷ [])
          ∙ ap (λ (s : List ℕ). s ++ ((48 + d) ∷ [])) m.spelled;
    }

numeral_digits : (k n : ℕ) → n < 10 ^ suc k → Numeral n (digits (suc k) n)
numeral_digits zero n h =
    let l : n < 10 = h in
    subst (Numeral n) (sym (digits_small 0 n l)) (numeral_one n l)
numeral_digits (suc k) n h =
    by_cases (ltb n 10)
    (λ e.
    let l = ltb-true n 10 e in
    subst (Numeral n) (sym (digits_small (suc k) n l)) (numeral_one n l))
    (λ e.
    let whole : n / 10 * 10 + n % 10 ≡ n = omega arith in
    subst (Numeral n) (sym (digits_large (suc k) n (ltb-false n 10 e)))
    (subst (λ (m : ℕ). Numeral m (digits (suc k) (n / 10) ++ ((48 + n % 10) ∷ []))) whole
    (numeral_more (n % 10) (omega arith) (numeral_digits k (n / 10) (tenth_below (suc k) n h)))))

pub numeral : (n : ℕ) → n < 10 ^ 20 → Numeral n (decimal n)
unfolding decimal
numeral n h = numeral_digits 19 n h

-- How many digits

pub digits_few : (k j n : ℕ) → n < 10 ^ suc j → length (digits k n) ≤ suc j
unfolding digits
digits_few zero j n h = omega arith
digits_few (suc k) zero n h =
    let l : n < 10 = h in
    rw (digits_small k n l) (omega arith)
digits_few (suc k) (suc j) n h =
    by_cases (ltb n 10)
    (λ e. rw (digits_small k n (ltb-true n 10 e)) (omega arith))
    (λ e.
    rw (digits_large k n (ltb-false n 10 e), length-append (digits k (n / 10)) ((48 + n % 10) ∷ []))
    (omega (arith, digits_few k j (n / 10) (tenth_below (suc j) n h))))

pub name_few : (n : ℕ) → n ≤ 65535 → length (decimal n) ≤ 5
unfolding decimal
name_few n h = digits_few 20 4 n (omega arith)
