-- What an answer of the readers of numbers says of the text.
--     numeral_is           a number read: the text is its digits and what is left, which opens with none
--     numeral_stuck        stuck: at once, where there is no digit; or at the digit that passes the bound
--     canonical_is         .. and without a leading zero
--     canonical_stuck      .. or at a digit behind a zero
--     canonical_spelt      what it read is the number in decimal
--     numeral_shorter, canonical_shorter     what is left is shorter than the text
--     numeral_within, canonical_within       where a reader is stuck, what is left is no longer than the text
--     numeral_local, canonical_local         .. and of it only the first byte was looked at: whether it is a digit
--     numeral_halts, canonical_halts         a reader that is stuck looks at no byte behind the one where it is
use Prim.Native.Nat.{ℕ, ◌+◌, ◌*◌, ◌^◌, ◌≤◌, ◌<◌}
use mathlib.Core.Path.{◌≡◌, refl, sym, ap, subst, ◌∙◌}
use mathlib.Core.Logic.{◌⊎◌, inl, inr, ⊎_elim}
use mathlib.Core.List.{List, [], ◌∷◌, ◌++◌, append_cancel_right, head-eq_of_cons-eq}
use mathlib.Core.Bool.{true, false}
use native.Mathlib.Omega.{arith}
use lib.Dec.{leb, eqb}
use lib.ListN.{length, length-append}
use borrow.Author.Tests.{leb-true, leb-false, eqb-true, eqb-false, ne_eqb}
use Rattle.laws.proofs.Booleans.{by_cases, clash}
use Rattle.pen.specs.Decimal.{decimal}
use Rattle.laws.specs.Characters.{is_digit, AllDigits}
use Rattle.laws.proofs.Characters.{few_digit}
use Rattle.pen.specs.Amounts.{Lead, digit_of, amount_from, amount}
use Rattle.numerals.specs.Numerals.{
  Plain,
  opens,
  Res,
  is,
  stuck,
  numeral_from,
  numeral,
  canonical,
  Splits,
  Passes,
}
use Rattle.numerals.proofs.Amounts.{lead_plain, amount_decimal, decimal_digits, decimal_plain, plain_unique}
use Rattle.numerals.proofs.Reading.{numeral_reads, numeral_past, canonical_reads, canonical_past}

-- what an answer says, of digits behind those that spell acc
abbrev FromSays : ℕ → ℕ → List ℕ → Res ℕ → Type 0
FromSays most acc t (is v u) = Splits most acc t v u
FromSays most acc t (stuck u) = Passes most acc t u

from_step : (most acc b : ℕ) (t : List ℕ) (r : Res ℕ) → is_digit b ≡ true
    → FromSays most (acc * 10 + digit_of b) t r
    → FromSays most acc (b ∷ t) r
unfolding amount_from
from_step most acc b t (is v u) e s = record {
  read = b ∷ s.read;
  whole = ap (λ (l : List ℕ). b ∷ l) s.whole;
  digits = (e, s.digits);
  gives = s.gives;
  held = s.held;
  ended = s.ended;
}
from_step most acc b t (stuck u) e s = record {
  read = b ∷ s.read;
  byte = s.byte;
  left = s.left;
  whole = ap (λ (l : List ℕ). b ∷ l) s.whole;
  digits = (e, s.digits);
  held = s.held;
  here = s.here;
  digit = s.digit;
  past = s.past;
}

from_says : (most acc : ℕ) (t : List ℕ) → acc ≤ most → FromSays most acc t (numeral_from most acc t)
unfolding amount_from numeral_from opens
from_says most acc [] l =
    record { read = []; whole = refl; digits = tt; gives = refl; held = l; ended = refl }
from_says most acc (b ∷ t) l =
    by_cases (is_digit b)
    (λ e.
    by_cases (leb (acc * 10 + digit_of b) most)
    (λ k.
    rw (e, k)
    (from_step most acc b t (numeral_from most (acc * 10 + digit_of b) t) e
    (from_says most (acc * 10 + digit_of b) t (leb-true (acc * 10 + digit_of b) most k))))
    (λ k.
    rw (e, k)
    (record {
      read = [];
      byte = b;
      left = t;
      whole = refl;
      digits = tt;
      held = l;
      here = refl;
      digit = e;
      past = leb-false (acc * 10 + digit_of b) most k;
    })))
    (λ e. rw e (record { read = []; whole = refl; digits = tt; gives = refl; held = l; ended = e }))

abbrev NumeralSays : ℕ → List ℕ → Res ℕ → Type 0
NumeralSays most t (is v u) = (opens t ≡ true) × Splits most 0 t v u
NumeralSays most t (stuck u) = ((opens t ≡ false) × (t ≡ u)) ⊎ Passes most 0 t u

numeral_opened : (most : ℕ) (t : List ℕ) (r : Res ℕ) → opens t ≡ true → FromSays most 0 t r → NumeralSays most t r
numeral_opened most t (is v u) e s = (e, s)
numeral_opened most t (stuck u) e s = inr s

numeral_says : (most : ℕ) (t : List ℕ) → NumeralSays most t (numeral most t)
unfolding numeral
numeral_says most t =
    by_cases (opens t)
    (λ e. rw e (numeral_opened most t (numeral_from most 0 t) e (from_says most 0 t (omega arith))))
    (λ e. rw e (inl (e, refl)))

pub numeral_is : (most v : ℕ) (t u : List ℕ) → numeral most t ≡ is v u → (opens t ≡ true) × Splits most 0 t v u
numeral_is most v t u e = subst (NumeralSays most t) e (numeral_says most t)

pub numeral_stuck : (most : ℕ) (t u : List ℕ) → numeral most t ≡ stuck u
    → ((opens t ≡ false) × (t ≡ u)) ⊎ Passes most 0 t u
numeral_stuck most t u e = subst (NumeralSays most t) e (numeral_says most t)

-- digits, then none: there is a digit where the text opens with one
lead_read : (ds u t : List ℕ) → t ≡ ds ++ u → opens t ≡ true → opens u ≡ false → Lead t → Lead ds
lead_read [] u t e o p l = clash o (ap opens e ∙ p)
lead_read (b ∷ ds) u t e o p l = subst Lead e l

abbrev CanonicalSays : ℕ → List ℕ → Res ℕ → Type 0
CanonicalSays most t (is v u) = (s : Splits most 0 t v u) × Plain s.read
CanonicalSays most t (stuck u) =
    ((opens t ≡ false) × (t ≡ u)) ⊎ (((opens u ≡ true) × (t ≡ 48 ∷ u)) ⊎ (Lead t × Passes most 0 t u))

lead_says : (most : ℕ) (t : List ℕ) (r : Res ℕ) → Lead t → NumeralSays most t r → CanonicalSays most t r
lead_says most t (is v u) l s =
    let k = s.1 in
    (k, lead_plain k.read (lead_read k.read u t k.whole s.0 k.ended l))
lead_says most t (stuck u) l (inl h) = inl h
lead_says most t (stuck u) l (inr p) = inr (inr (l, p))

-- a zero alone
zero_splits : (most b : ℕ) (t : List ℕ) → b ≡ 48 → opens t ≡ false
    → (s : Splits most 0 (b ∷ t) 0 t) × Plain s.read
unfolding amount_from
zero_splits most b t z e = (
  record {
    read = b ∷ [];
    whole = refl;
    digits = (few_digit b (omega arith) (omega arith), tt);
    gives = omega arith;
    held = omega arith;
    ended = e;
  },
  tt,
)

canonical_says : (most : ℕ) (t : List ℕ) → CanonicalSays most t (canonical most t)
unfolding canonical opens
canonical_says most [] = inl (refl, refl)
canonical_says most (b ∷ t) =
    by_cases (eqb b 48)
    (λ z.
    by_cases (opens t)
    (λ e. rw (z, e) (inr (inl (e, ap (λ (n : ℕ). n ∷ t) (eqb-true b 48 z)))))
    (λ e. rw (z, e) (zero_splits most b t (eqb-true b 48 z) e)))
    (λ z. rw z (lead_says most (b ∷ t) (numeral most (b ∷ t)) (eqb-false b 48 z) (numeral_says most (b ∷ t))))

pub canonical_is : (most v : ℕ) (t u : List ℕ) → canonical most t ≡ is v u
    → (s : Splits most 0 t v u) × Plain s.read
canonical_is most v t u e = subst (CanonicalSays most t) e (canonical_says most t)

pub canonical_stuck : (most : ℕ) (t u : List ℕ) → canonical most t ≡ stuck u
    → ((opens t ≡ false) × (t ≡ u)) ⊎ (((opens u ≡ true) × (t ≡ 48 ∷ u)) ⊎ (Lead t × Passes most 0 t u))
canonical_stuck most t u e = subst (CanonicalSays most t) e (canonical_says most t)

pub canonical_spelt : (most v : ℕ) (t u : List ℕ) → most < 10 ^ 20 → canonical most t ≡ is v u
    → (t ≡ decimal v ++ u) × (v ≤ most) × (opens u ≡ false)
canonical_spelt most v t u h e =
    let s = canonical_is most v t u e in
    let k = s.0 in
    let l : v < 10 ^ 20 = omega (arith, k.held) in
    let d : k.read ≡ decimal v =
    plain_unique k.read (decimal v) s.1 (decimal_plain v l) k.digits (decimal_digits v)
    (sym k.gives ∙ sym (amount_decimal v l)) in
    (k.whole ∙ ap (λ (x : List ℕ). x ++ u) d, k.held, k.ended)

-- what is left behind a byte or more
left_shorter : (ds u t : List ℕ) → t ≡ ds ++ u → 0 < length ds → length u < length t
left_shorter ds u t e h = omega (arith, ap length e, length-append ds u)

read_some : (ds u t : List ℕ) → t ≡ ds ++ u → opens t ≡ true → opens u ≡ false → 0 < length ds
read_some [] u t e o p = clash o (ap opens e ∙ p)
read_some (b ∷ ds) u t e o p = omega arith

plain_some : (ds : List ℕ) → Plain ds → 0 < length ds
plain_some [] p = absurd p
plain_some (b ∷ ds) p = omega arith

pub numeral_shorter : (most v : ℕ) (t u : List ℕ) → numeral most t ≡ is v u → length u < length t
numeral_shorter most v t u e =
    let s = numeral_is most v t u e in
    let k = s.1 in
    left_shorter k.read u t k.whole (read_some k.read u t k.whole s.0 k.ended)

pub canonical_shorter : (most v : ℕ) (t u : List ℕ) → canonical most t ≡ is v u → length u < length t
canonical_shorter most v t u e =
    let s = canonical_is most v t u e in
    left_shorter s.0.read u t s.0.whole (plain_some s.0.read s.1)

pub numeral_within : (most : ℕ) (t u : List ℕ) → numeral most t ≡ stuck u → length u ≤ length t
numeral_within most t u e =
    ⊎_elim (λ h. omega (arith, ap length h.1))
    (λ p. omega (arith, ap length p.whole, length-append p.read u))
    (numeral_stuck most t u e)

pub canonical_within : (most : ℕ) (t u : List ℕ) → canonical most t ≡ stuck u → length u ≤ length t
canonical_within most t u e =
    ⊎_elim (λ h. omega (arith, ap length h.1))
    (⊎_elim (λ h. omega (arith, ap length h.1))
    (λ p. omega (arith, ap length p.1.whole, length-append p.1.read u)))
    (canonical_stuck most t u e)

-- digits of which there is one open with one
digits_open : (ds : List ℕ) → 0 < length ds → AllDigits ds → opens ds ≡ true
unfolding opens
digits_open [] l h = absurd (omega arith)
digits_open (b ∷ ds) l h = h.0

pub numeral_local : (most v : ℕ) (ds u u' : List ℕ) → numeral most (ds ++ u) ≡ is v u → opens u' ≡ false
    → numeral most (ds ++ u') ≡ is v u'
numeral_local most v ds u u' e o =
    let s = numeral_is most v (ds ++ u) u e in
    let k = s.1 in
    let l = read_some k.read u (ds ++ u) k.whole s.0 k.ended in
    ap (λ (x : List ℕ). numeral most (x ++ u')) (append_cancel_right ds k.read u k.whole)
    ∙ numeral_reads most k.read u' (digits_open k.read l k.digits) k.digits
    (subst (λ (n : ℕ). n ≤ most) k.gives k.held)
    o
    ∙ ap (λ (n : ℕ). is n u') (sym k.gives)

pub canonical_local : (most v : ℕ) (ds u u' : List ℕ) → canonical most (ds ++ u) ≡ is v u → opens u' ≡ false
    → canonical most (ds ++ u') ≡ is v u'
canonical_local most v ds u u' e o =
    let s = canonical_is most v (ds ++ u) u e in
    let k = s.0 in
    ap (λ (x : List ℕ). canonical most (x ++ u')) (append_cancel_right ds k.read u k.whole)
    ∙ canonical_reads most k.read u' s.1 k.digits (subst (λ (n : ℕ). n ≤ most) k.gives k.held) o
    ∙ ap (λ (n : ℕ). is n u') (sym k.gives)

module _ (most : ℕ) (ds : List ℕ) (b : ℕ) (w w' : List ℕ) where
  -- the same digits before the same byte, with anything behind it
  past_again : Passes most 0 (ds ++ (b ∷ w)) (b ∷ w)
      → AllDigits ds × (amount ds ≤ most) × (is_digit b ≡ true) × (most < amount ds * 10 + digit_of b)
  past_again p =
      let d : p.read ≡ ds = sym (append_cancel_right ds p.read (b ∷ w) p.whole) in
      let c : p.byte ≡ b = sym (head-eq_of_cons-eq p.here) in (
        subst AllDigits d p.digits,
        subst (λ (x : List ℕ). amount x ≤ most) d p.held,
        ap is_digit (sym c) ∙ p.digit,
        subst (λ (x : List ℕ). most < amount x * 10 + digit_of b) d
            (subst (λ (n : ℕ). most < amount p.read * 10 + digit_of n) c p.past),
      )

  lead_again : (es : List ℕ) → Lead (es ++ (b ∷ w)) → Lead (es ++ (b ∷ w'))
  lead_again [] l = l
  lead_again (c ∷ es) l = l

  no_digit : is_digit b ≡ false → (numeral most (b ∷ w') ≡ stuck (b ∷ w')) × (canonical most (b ∷ w') ≡ stuck (b ∷ w'))
  unfolding numeral canonical opens
  no_digit e = (
    rw e,
    rw (ne_eqb b 48 (λ z. clash (few_digit b (omega arith) (omega arith)) e), e),
  )

  pub numeral_halts : numeral most (ds ++ (b ∷ w)) ≡ stuck (b ∷ w) → numeral most (ds ++ (b ∷ w')) ≡ stuck (b ∷ w')
  unfolding opens
  numeral_halts e =
      ⊎_elim
      (λ h.
      ap (λ (x : List ℕ). numeral most (x ++ (b ∷ w'))) (append_cancel_right ds [] (b ∷ w) h.1)
      ∙ (no_digit (ap opens (sym h.1) ∙ h.0)).0)
      (λ p. let q = past_again p in numeral_past most ds b w' q.0 q.1 q.2 q.3)
      (numeral_stuck most (ds ++ (b ∷ w)) (b ∷ w) e)

  zero_again : is_digit b ≡ true → canonical most (48 ∷ b ∷ w') ≡ stuck (b ∷ w')
  unfolding canonical opens
  zero_again e = rw e

  pub canonical_halts : canonical most (ds ++ (b ∷ w)) ≡ stuck (b ∷ w)
      → canonical most (ds ++ (b ∷ w')) ≡ stuck (b ∷ w')
  unfolding opens
  canonical_halts e =
      ⊎_elim
      (λ h.
      ap (λ (x : List ℕ). canonical most (x ++ (b ∷ w'))) (append_cancel_right ds [] (b ∷ w) h.1)
      ∙ (no_digit (ap opens (sym h.1) ∙ h.0)).1)
      (⊎_elim
      (λ h.
      ap (λ (x : List ℕ). canonical most (x ++ (b ∷ w'))) (append_cancel_right ds (48 ∷ []) (b ∷ w) h.1)
      ∙ zero_again h.0)
      (λ p.
      let q = past_again p.1 in
      canonical_past most ds b w' (lead_again ds p.0) q.0 q.1 q.2 q.3))
      (canonical_stuck most (ds ++ (b ∷ w)) (b ∷ w) e)
