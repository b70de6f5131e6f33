-- Numbers as readers read them.
--     Digital most v s n     bytes s are digits, which behind digits of value v spell n, at most most
--     Numbered most s n      bytes s are digits, one at least, of value n, at most most
--     Canonical s n          bytes s are n in decimal, n at most 65535
--     decimal_value          digits with no zero in front are their value in decimal
use Prim.Native.Nat.{ℕ, suc, ◌+◌, ◌-◌, ◌*◌, ◌/◌, ◌%◌, ◌≤◌, ◌<◌}
use mathlib.Core.Path.{◌≡◌, refl, sym, ap, ◌∙◌, subst}
use mathlib.Core.List.{List, [], ◌∷◌, ◌++◌, map, append_assoc, append-nil}
use mathlib.Core.Bool.{Bool, true, false}
use native.Mathlib.Omega.{arith}
use native.Mathlib.Nat.{mul-add-div_right, mul-add-mod_self_right, div-eq_of_lt, mod-eq_of_lt}
use lib.Dec.{eqb, leb, ltb}
use borrow.Author.Tests.{eqb-false, leb-true, lt-ltb, le-ltb}
use Rattle.laws.specs.Lists.{All}
use Rattle.laws.proofs.Booleans.{clash, both_true}
use Rattle.grammar.specs.Numerals.{Digits, value_from, value, digit_bytes}
use Rattle.pen.specs.Decimal.{digits, decimal}
use Rattle.laws.specs.Characters.{is_digit, first}
use Rattle.parsing.specs.Reader.{give, halt, either, numeral, number, read_name}
use Rattle.parsing.proofs.SoundJudged.{Judged, shift, mapped, inhabited, given, look_at, look_judged, byte_or}

pub record Digital (most v : ℕ) (s : List ℕ) (n : ℕ) : Type 0 where
  pub others : List ℕ
  pub small : All (λ (d : ℕ). d < 10) others
  pub bytes : s ≡ map (λ (d : ℕ). 48 + d) others
  pub meant : n ≡ value_from v others
  pub least : n ≤ most

pub record Numbered (most : ℕ) (s : List ℕ) (n : ℕ) : Type 0 where
  pub number : Digits
  pub bytes : s ≡ digit_bytes number
  pub meant : n ≡ value number
  pub least : n ≤ most

pub record Canonical (s : List ℕ) (n : ℕ) : Type 0 where
  pub bytes : s ≡ decimal n
  pub least : n ≤ 65535

digit_bounds : (b : ℕ) → is_digit b ≡ true → (48 ≤ b) × (b ≤ 57)
unfolding is_digit
digit_bounds b e =
    let (l, h) = both_true (leb 48 b) (leb b 57) e in
    (leb-true 48 b l, leb-true b 57 h)

digit_byte : (b : ℕ) → is_digit b ≡ true → b ≡ 48 + (b - 48)
digit_byte b e = let (l, h) = digit_bounds b e in omega arith

digit_small : (b : ℕ) → is_digit b ≡ true → b - 48 < 10
digit_small b e = let (l, h) = digit_bounds b e in omega arith

-- Digits that come

digital_none : (most v : ℕ) → v ≤ most → Digital most v [] v
unfolding value_from
digital_none most v least = record { others = []; small = tt; bytes = refl; meant = refl; least = least }

digital_more : (most v b : ℕ) (s : List ℕ) (n : ℕ) → is_digit b ≡ true → Digital most (v * 10 + (b - 48)) s n
    → Digital most v (b ∷ s) n
unfolding value_from
digital_more most v b s n e h =
    record {
      others = (b - 48) ∷ h.others;
      small = (digit_small b e, h.small);
      bytes = ap (λ z. z ∷ s) (digit_byte b e) ∙ ap (λ z. (48 + (b - 48)) ∷ z) h.bytes;
      meant = h.meant;
      least = h.least;
    }

pub numeral_judged : (most v : ℕ) → v ≤ most → (t : List ℕ)
    → Judged (λ s u n. Digital most v s n) t (numeral most v t)
numeral_judged most v least [] = given v (digital_none most v least)
numeral_judged most v least (b ∷ t) =
    go (is_digit b) refl (leb (v * 10 + (b - 48)) most) refl (λ h. numeral_judged most (v * 10 + (b - 48)) h t)
  where
    go : (p : Bool) → is_digit b ≡ p → (q : Bool) → leb (v * 10 + (b - 48)) most ≡ q
        → (v * 10 + (b - 48) ≤ most
        → Judged (λ s u n. Digital most (v * 10 + (b - 48)) s n) t (numeral most (v * 10 + (b - 48)) t))
        → Judged (λ s u n. Digital most v s n) (b ∷ t)
        (either p (either q (λ u. numeral most (v * 10 + (b - 48)) t) halt) (give v) (b ∷ t))
    go true e true l f =
        shift (b ∷ []) refl
        (mapped (λ s u n h. digital_more most v b s n e h) (f (leb-true (v * 10 + (b - 48)) most l)))
    go true e false l f = inhabited [] v (digital_none most v least)
    go false e q l f = given v (digital_none most v least)

-- digits, one at least; the first of them is the text's first byte
numeral_first : {H : List ℕ → List ℕ → ℕ → Type 0} (most : ℕ) (x : List ℕ) (n : ℕ) → H x [] n → (t : List ℕ)
    → is_digit (first t) ≡ true
    → ((s u : List ℕ) (n : ℕ) → Digital most (0 * 10 + (first t - 48)) s n → H (first t ∷ s) u n)
    → Judged H t (numeral most 0 t)
unfolding first is_digit
numeral_first most x n w [] e f = clash e refl
numeral_first {H} most x n w (b ∷ t) e f = rw e (go (leb (0 * 10 + (b - 48)) most) refl)
  where
    go : (q : Bool) → leb (0 * 10 + (b - 48)) most ≡ q
        → Judged H (b ∷ t) (either q (λ u. numeral most (0 * 10 + (b - 48)) t) halt (b ∷ t))
    go true l =
        shift (b ∷ []) refl (mapped f (numeral_judged most (0 * 10 + (b - 48)) (leb-true (0 * 10 + (b - 48)) most l) t))
    go false l = inhabited x n w

digits_of : (b : ℕ) (ds : List ℕ) → is_digit b ≡ true → All (λ (d : ℕ). d < 10) ds → Digits
digits_of b ds e small = record { first = b - 48; others = ds; small = (digit_small b e, small) }

numbered : (most b : ℕ) (s : List ℕ) (n : ℕ) → is_digit b ≡ true → Digital most (0 * 10 + (b - 48)) s n
    → Numbered most (b ∷ s) n
unfolding value value_from digit_bytes digits_of
numbered most b s n e h =
    record {
      number = digits_of b h.others e h.small;
      bytes = ap (λ z. z ∷ s) (digit_byte b e) ∙ ap (λ z. (48 + (b - 48)) ∷ z) h.bytes;
      meant = h.meant;
      least = h.least;
    }

pub one : Digits
one = record { first = 1; others = []; small = (omega arith, tt) }

pub one_value : value one ≡ 1
unfolding one value value_from
one_value = refl

pub one_bytes : digit_bytes one ≡ 49 ∷ []
unfolding one digit_bytes
one_bytes = refl

pub numbered_one : (most : ℕ) → 1 ≤ most → Numbered most (49 ∷ []) 1
numbered_one most some = record { number = one; bytes = sym one_bytes; meant = sym one_value; least = some }

pub digits_judged : (most : ℕ) → 1 ≤ most → (t : List ℕ) → is_digit (first t) ≡ true
    → Judged (λ s u n. Numbered most s n) t (numeral most 0 t)
digits_judged most some t e =
    numeral_first most (49 ∷ []) 1 (numbered_one most some) t e (λ s u n h. numbered most (first t) s n e h)

pub number_judged : (most : ℕ) → 1 ≤ most → (t : List ℕ) → Judged (λ s u n. Numbered most s n) t (number most t)
number_judged most some =
    look_judged is_digit (λ t e. digits_judged most some t e)
    (λ t e. inhabited (49 ∷ []) 1 (numbered_one most some))

-- Names: no zero in front

value_grows : (v : ℕ) (ds : List ℕ) → v ≤ value_from v ds
unfolding value_from
value_grows v [] = omega arith
value_grows v (d ∷ ds) = let more = value_grows (v * 10 + d) ds in omega arith

digit_one : (k d : ℕ) → d < 10 → digits (suc k) d ≡ (48 + d) ∷ []
unfolding digits
digit_one k d small = rw (lt-ltb d 10 small)

digit_more : (k v d : ℕ) → 1 ≤ v → d < 10 → digits (suc k) (v * 10 + d) ≡ digits k v ++ ((48 + d) ∷ [])
unfolding digits
digit_more k v d some small =
    let large : ltb (v * 10 + d) 10 ≡ false = le-ltb (v * 10 + d) 10 (omega arith) in
    let front : (v * 10 + d) / 10 ≡ v =
    omega (arith, mul-add-div_right {m = 10} (omega arith) v d, div-eq_of_lt small)
    in
    let last : (v * 10 + d) % 10 ≡ d = mul-add-mod_self_right v 10 d ∙ mod-eq_of_lt small in
    rw (large, front, last)

-- so many more digits
abbrev reach : List ℕ → ℕ → ℕ
reach [] k = k
reach (d ∷ ds) k = reach ds (suc k)

digits_value : (ds : List ℕ) (k v : ℕ) → 1 ≤ v → All (λ (d : ℕ). d < 10) ds
    → digits (reach ds k) (value_from v ds) ≡ digits k v ++ map (λ (d : ℕ). 48 + d) ds
unfolding value_from
digits_value [] k v some small = sym (append-nil (digits k v))
digits_value (d ∷ ds) k v some (s, small) =
    digits_value ds (suc k) (v * 10 + d) (omega arith) small
    ∙ (ap (λ z. z ++ map (λ (d : ℕ). 48 + d) ds) (digit_more k v d some s)
    ∙ append_assoc (digits k v) ((48 + d) ∷ []) (map (λ (d : ℕ). 48 + d) ds))

digits_spelled : (ds : List ℕ) (k f : ℕ) → 1 ≤ f → f < 10 → All (λ (d : ℕ). d < 10) ds
    → (48 + f) ∷ map (λ (d : ℕ). 48 + d) ds ≡ digits (reach ds (suc k)) (value_from f ds)
digits_spelled ds k f some small all =
    sym (digits_value ds (suc k) f some all ∙ ap (λ z. z ++ map (λ (d : ℕ). 48 + d) ds) (digit_one k f small))

pub decimal_value : (f : ℕ) (ds : List ℕ) → 1 ≤ f → f < 10 → All (λ (d : ℕ). d < 10) ds → value_from f ds ≤ 65535
    → (48 + f) ∷ map (λ (d : ℕ). 48 + d) ds ≡ decimal (value_from f ds)
unfolding decimal value_from
decimal_value f [] some small all least = digits_spelled [] 19 f some small all
decimal_value f (a ∷ []) some small all least = digits_spelled (a ∷ []) 18 f some small all
decimal_value f (a ∷ b ∷ []) some small all least = digits_spelled (a ∷ b ∷ []) 17 f some small all
decimal_value f (a ∷ b ∷ c ∷ []) some small all least = digits_spelled (a ∷ b ∷ c ∷ []) 16 f some small all
decimal_value f (a ∷ b ∷ c ∷ d ∷ []) some small all least = digits_spelled (a ∷ b ∷ c ∷ d ∷ []) 15 f some small all
decimal_value f (a ∷ b ∷ c ∷ d ∷ e ∷ ds) some small all least =
    let more = value_grows (((((f * 10 + a) * 10 + b) * 10 + c) * 10 + d) * 10 + e) ds in
    absurd (omega arith)

canonical : (b : ℕ) (s : List ℕ) (n : ℕ) → is_digit b ≡ true → eqb b 48 ≡ false
    → Digital 65535 (0 * 10 + (b - 48)) s n → Canonical (b ∷ s) n
canonical b s n e nonzero h =
    let (l, u) = digit_bounds b e in
    let other : b ≡ 48 → ⊥ = eqb-false b 48 nonzero in
    let same : b ≡ 48 + (0 * 10 + (b - 48)) = omega arith in
    let least : value_from (0 * 10 + (b - 48)) h.others ≤ 65535 = subst (λ z. z ≤ 65535) h.meant h.least in
    record {
      bytes = ap (λ z. z ∷ s) same ∙ (ap (λ z. (48 + (0 * 10 + (b - 48))) ∷ z) h.bytes
          ∙ (decimal_value (0 * 10 + (b - 48)) h.others (omega arith) (omega arith) h.small least
          ∙ ap decimal (sym h.meant)));
      least = h.least;
    }

canonical_zero : Canonical (48 ∷ []) 0
unfolding decimal digits
canonical_zero = record { bytes = refl; least = omega arith }

canonical_one : Canonical (49 ∷ []) 1
unfolding decimal digits
canonical_one = record { bytes = refl; least = omega arith }

pub name_judged : (t : List ℕ) → Judged (λ s u n. Canonical s n) t (read_name t)
name_judged =
    byte_or 48 refl
    (look_judged is_digit (λ t e. inhabited [] 0 canonical_zero) (λ t e. given 0 canonical_zero))
    (λ t nonzero.
    look_at is_digit (numeral 65535 0) halt t
    (λ e.
    numeral_first 65535 (49 ∷ []) 1 canonical_one t e
    (λ s u n h. canonical (first t) s n e nonzero h))
    (λ e. inhabited (49 ∷ []) 1 canonical_one))
