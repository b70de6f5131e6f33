-- A record that is read stands where it was read, byte by byte.
--     word_front          the n bytes from an offset on are those of the number that they make
--     record_stands       a record that is read stands there, and its fields are in range
use Prim.Native.Nat.{ℕ, zero, suc, ◌+◌, ◌*◌, ◌-◌, ◌/◌, ◌%◌, ◌≤◌, ◌<◌}
use mathlib.Core.Path.{◌≡◌, refl, sym, ap, ap₂, ◌∙◌}
use mathlib.Core.List.{List, [], ◌∷◌, ◌++◌, append_assoc, append-nil}
use mathlib.Core.Bool.{Bool, true, false, cond}
use native.Mathlib.Omega.{arith}
use native.Mathlib.Nat.{add-zero}
use borrow.Author.Tests.{eqb-true, ltb-true, ltb-false, leb-true, lt-ltb}
use lib.Dec.{ltb, eqb}
use lib.ListN.{length, drop}
use lib.Seq.{drop-cons}
use Rattle.cells.specs.Bytes.{byte_at, Bytes, word, signed, int4, fits, bytes_of}
use Rattle.cells.specs.Cell.{held, in_range}
use Rattle.codes.specs.Codes.{function_of, axis_of, test_of, function_number, axis_number, test_number, test_name}
use Rattle.cells.proofs.Bytes.{word_bound}
use Rattle.cells.proofs.Bits.{signed_low, signed_high}
use Rattle.laws.specs.Attempt.{Attempt, gives, attempt, Given}
use Rattle.laws.proofs.Booleans.{by_cases, both_true}
use Rattle.laws.proofs.Outcomes.{given_fails, given_gives, given_provided, given_attempt}
use Rattle.meaning.specs.Query.{Record, literal, empty, root, variable, sequence, letting, for, choice, function}
use Rattle.meaning.specs.Query.{counting, values, step, mark_ql, mark_qb, mark_qe, mark_qr, mark_qv, mark_qs, mark_qt, mark_qf}
use Rattle.meaning.specs.Query.{mark_qi, mark_qo, mark_qc, mark_qd, mark_qx, variable_of, fragment_of, boolean_of, sized}
use Rattle.meaning.specs.Query.{record_of}
use Rattle.grammar.specs.Records.{record_ql, record_qb, record_qe, record_qr, record_qv, record_qs, record_qt, record_qf}
use Rattle.grammar.specs.Records.{record_qi, record_qo, record_qc, record_qd, record_qx}
use Rattle.grammar.specs.Encoded.{item_record, record_bytes, Plain, Within, Stands}

-- Bytes and numbers

-- the last byte of a number
last_byte : (u w b : ℕ) → b < 256 → u ≡ w * 256 + b → (u / 256 ≡ w) × (u % 256 ≡ b)
last_byte u w b h e = (omega arith, omega arith)

pub word_front :
    (bs : List ℕ) → Bytes bs → (at n : ℕ) → at + n ≤ length bs → drop at bs ≡ bytes_of n (word bs at n) ++ drop
    (at + n) bs
unfolding word bytes_of
word_front bs h at zero l = ap (λ (k : ℕ). drop k bs) (sym (add-zero at))
word_front bs h at (suc n) l =
    let w = word bs at n in
    let b = byte_at bs (at + n) in
    let (high, low) = last_byte (w * 256 + b) w b (h (at + n)) refl in
    let next : suc (at + n) ≡ at + suc n = omega arith in
    word_front bs h at n (omega arith)
    ∙ ap (λ (t : List ℕ). bytes_of n w ++ t)
    (drop-cons bs (at + n) 0 (omega arith) ∙ ap (λ (k : ℕ). b ∷ drop k bs) next)
    ∙ sym (append_assoc (bytes_of n w) (b ∷ []) (drop (at + suc n) bs))
    ∙ ap₂ (λ (u c : ℕ). (bytes_of n u ++ (c ∷ [])) ++ drop (at + suc n) bs) (sym high) (sym low)

-- Fields

variable_is : (b : ℕ) → Given (λ v. (v ≡ b) × (v < 8)) (variable_of b)
unfolding variable_of
variable_is b = given_provided _ (λ t. given_gives (refl, ltb-true b 8 t))

fragment_is : (b : ℕ) → Given (λ k. (k ≡ b) × ((1 ≤ k) × (k ≤ 255))) (fragment_of b)
unfolding fragment_of
fragment_is b =
    given_provided _
    (λ t. let (l, u) = both_true _ _ t in given_gives (refl, (leb-true 1 b l, leb-true b 255 u)))

-- a choice, with what its test says
given_if :
    {A : Type 0} {P : A → Type 0} {a b : Attempt A} (t : Bool) → (t ≡ true → Given P a) → Given P b →
    Given P (cond t a b)
given_if true h k = h refl
given_if false h k = k

boolean_is :
    (b : ℕ) → Given (λ z. (item_record (held z) ≡ bytes_of 2 mark_qb ++ (b ∷ [])) × Plain (held z)) (boolean_of b)
unfolding boolean_of item_record held record_qb
boolean_is b =
    given_if (eqb b 0)
    (λ t. given_gives (ap (λ (c : ℕ). bytes_of 2 mark_qb ++ (c ∷ [])) (sym (eqb-true b 0 t)), tt))
    (given_if (eqb b 1)
    (λ t. given_gives (ap (λ (c : ℕ). bytes_of 2 mark_qb ++ (c ∷ [])) (sym (eqb-true b 1 t)), tt)) given_fails)

function_is : (b : ℕ) → Given (λ f. function_number f ≡ b) (function_of b)
unfolding function_of function_number
function_is b =
    given_if (eqb b 1) (λ t. given_gives (sym (eqb-true b 1 t)))
    (given_if (eqb b 2) (λ t. given_gives (sym (eqb-true b 2 t)))
    (given_if (eqb b 3) (λ t. given_gives (sym (eqb-true b 3 t)))
    (given_if (eqb b 4) (λ t. given_gives (sym (eqb-true b 4 t)))
    (given_if (eqb b 5) (λ t. given_gives (sym (eqb-true b 5 t)))
    (given_if (eqb b 6) (λ t. given_gives (sym (eqb-true b 6 t))) given_fails)))))

axis_is : (b : ℕ) → Given (λ x. axis_number x ≡ b) (axis_of b)
unfolding axis_of axis_number
axis_is b =
    given_if (eqb b 1) (λ t. given_gives (sym (eqb-true b 1 t)))
    (given_if (eqb b 2) (λ t. given_gives (sym (eqb-true b 2 t)))
    (given_if (eqb b 3) (λ t. given_gives (sym (eqb-true b 3 t)))
    (given_if (eqb b 4) (λ t. given_gives (sym (eqb-true b 4 t)))
    (given_if (eqb b 5) (λ t. given_gives (sym (eqb-true b 5 t)))
    (given_if (eqb b 6) (λ t. given_gives (sym (eqb-true b 6 t)))
    (given_if (eqb b 7) (λ t. given_gives (sym (eqb-true b 7 t)))
    (given_if (eqb b 8) (λ t. given_gives (sym (eqb-true b 8 t))) given_fails)))))))

test_is : (b name : ℕ) → Given (λ t. (test_number t ≡ b) × (test_name t ≡ name)) (test_of b name)
unfolding test_of test_number test_name
test_is b name =
    given_if (eqb b 3) (λ t. given_gives (sym (eqb-true b 3 t), refl))
    (given_provided (eqb name 0)
    (λ z.
    let none : 0 ≡ name = sym (eqb-true name 0 z) in
    given_if (eqb b 0) (λ t. given_gives (sym (eqb-true b 0 t), none))
    (given_if (eqb b 1) (λ t. given_gives (sym (eqb-true b 1 t), none))
    (given_if (eqb b 2) (λ t. given_gives (sym (eqb-true b 2 t), none)) given_fails))))

-- an integer, by its 32 bits
integer_is :
    (u : ℕ) → u < 0x1_0000_0000 → (item_record (held (signed 0x8000_0000 u)) ≡ record_ql u) × Plain
    (held (signed 0x8000_0000 u))
unfolding item_record held in_range
integer_is u h =
    by_cases (ltb u 0x8000_0000)
    (λ e.
    let l = ltb-true u 0x8000_0000 e in
    rw (signed_low 0x8000_0000 u l, e) (refl, e))
    (λ e.
    let l = ltb-false u 0x8000_0000 e in
    let t : ltb (0x8000_0000 + 0x8000_0000 - 1 - u) 0x8000_0000 ≡ true =
    lt-ltb (0x8000_0000 + 0x8000_0000 - 1 - u) 0x8000_0000 (omega arith) in
    let back : 0x1_0000_0000 - suc (0x8000_0000 + 0x8000_0000 - 1 - u) ≡ u = omega arith in
    rw (signed_high 0x8000_0000 u l, t) (ap record_ql back, t))

-- One record

-- what a record of n bytes and that mark has after its mark
record Fills (bs : List ℕ) (at n mark : ℕ) (r : Record) : Type 0 where
  fields : List ℕ
  own : record_bytes r ≡ bytes_of 2 mark ++ fields
  there : drop (at + 2) bs ≡ fields ++ drop (at + n) bs
  ranged : Within r

module _ (bs : List ℕ) (h : Bytes bs) (at : ℕ) where
  sized_stands :
      (n mark : ℕ) (a : Attempt Record) → 2 ≤ n → word bs at 2 ≡ mark →
      (at + n ≤ length bs → Given (Fills bs at n mark) a) → Given (Stands bs at) (sized bs at n a)
  unfolding sized fits
  sized_stands n mark a l e g =
      given_provided _
      (λ t.
      let m : at + n ≤ length bs = leb-true (at + n) (length bs) t in
      given_attempt (g m)
      (λ r f.
      given_gives (record {
        bytes =
            word_front bs h at 2 (omega arith)
            ∙ ap₂ (λ (u : ℕ) (s : List ℕ). bytes_of 2 u ++ s) e f.there
            ∙ sym (append_assoc (bytes_of 2 mark) f.fields (drop (at + n) bs))
            ∙ ap (λ (s : List ℕ). s ++ drop (at + n) bs) (sym f.own);
        within = f.ranged;
      })))

  -- a record that is only its mark
  plain_stands :
      (mark : ℕ) (r : Record) → word bs at 2 ≡ mark → record_bytes r ≡ bytes_of 2 mark → Within r →
      Given (Stands bs at) (sized bs at 2 (gives r))
  plain_stands mark r e own w =
      sized_stands 2 mark (gives r) (omega arith) e
      (λ l.
      given_gives (record { fields = []; own = own ∙ sym (append-nil (bytes_of 2 mark)); there = refl; ranged = w }))

  -- the byte after a mark
  third : at + 3 ≤ length bs → drop (at + 2) bs ≡ byte_at bs (at + 2) ∷ drop (at + 3) bs
  third l =
      let next : suc (at + 2) ≡ at + 3 = omega arith in
      drop-cons bs (at + 2) 0 (omega arith) ∙ ap (λ (k : ℕ). byte_at bs (at + 2) ∷ drop k bs) next

  -- a record of one byte
  byte_stands :
      {A : Type 0} (P : A → Type 0) (mark : ℕ) (a : Attempt A) (f : A → Record) → word bs at 2 ≡ mark → Given P a →
      ((x : A) → P x → (record_bytes (f x) ≡ bytes_of 2 mark ++ (byte_at bs (at + 2) ∷ [])) × Within (f x)) →
      Given (Stands bs at) (sized bs at 3 (attempt a (λ x. gives (f x))))
  byte_stands P mark a f e g k =
      sized_stands 3 mark _ (omega arith) e
      (λ l.
      given_attempt g
      (λ x p.
      let (own, w) = k x p in
      given_gives (record { fields = byte_at bs (at + 2) ∷ []; own = own; there = third l; ranged = w })))

  integer_stands :
      word bs at 2 ≡ mark_ql → Given (Stands bs at) (sized bs at 6 (gives (literal (int4 bs (at + 2)))))
  unfolding record_bytes int4 record_ql
  integer_stands e =
      let u = word bs (at + 2) 4 in
      let (own, w) = integer_is u (word_bound bs h (at + 2) 4) in
      let next : at + 2 + 4 ≡ at + 6 = omega arith in
      sized_stands 6 mark_ql _ (omega arith) e
      (λ l.
      given_gives (record {
        fields = bytes_of 4 u;
        own = own;
        there =
            word_front bs h (at + 2) 4 (omega arith) ∙ ap (λ (k : ℕ). bytes_of 4 u ++ drop k bs) next;
        ranged = w;
      }))

  step_stands :
      word bs at 2 ≡ mark_qx →
      Given (Stands bs at)
      (sized bs at 6
      (attempt (axis_of (byte_at bs (at + 2)))
      (λ x. attempt (test_of (byte_at bs (at + 3)) (word bs (at + 4) 2)) (λ t. gives (step x t)))))
  unfolding record_bytes record_qx
  step_stands e =
      let u = word bs (at + 4) 2 in
      let two : suc (at + 3) ≡ at + 4 = omega arith in
      let four : at + 4 + 2 ≡ at + 6 = omega arith in
      let bound : u < 65536 = word_bound bs h (at + 4) 2 in
      sized_stands 6 mark_qx _ (omega arith) e
      (λ l.
      given_attempt (axis_is (byte_at bs (at + 2)))
      (λ x p.
      given_attempt (test_is (byte_at bs (at + 3)) u)
      (λ t q.
      given_gives (record {
        fields = byte_at bs (at + 2) ∷ byte_at bs (at + 3) ∷ bytes_of 2 u;
        own = rw (p, q.0, q.1);
        there =
            third (omega arith)
            ∙ ap (λ (s : List ℕ). byte_at bs (at + 2) ∷ s)
            (drop-cons bs (at + 3) 0 (omega arith)
            ∙ ap (λ (k : ℕ). byte_at bs (at + 3) ∷ drop k bs) two
            ∙ ap (λ (s : List ℕ). byte_at bs (at + 3) ∷ s)
            (word_front bs h (at + 4) 2 (omega arith) ∙ ap (λ (k : ℕ). bytes_of 2 u ++ drop k bs) four));
        ranged = omega (arith, q.1);
      }))))

  pub record_stands : Given (Stands bs at) (record_of bs at (word bs at 2))
  unfolding record_of record_bytes record_qe record_qr record_qv record_qs record_qt record_qf record_qi record_qo record_qc
      record_qd
  record_stands =
      let b = byte_at bs (at + 2) in
      let m = word bs at 2 in
      given_if (eqb m mark_ql) (λ t. integer_stands (eqb-true m mark_ql t))
      (given_if (eqb m mark_qb)
      (λ t. byte_stands _ mark_qb (boolean_of b) literal (eqb-true m mark_qb t) (boolean_is b) (λ z p. p))
      (given_if (eqb m mark_qe) (λ t. plain_stands mark_qe empty (eqb-true m mark_qe t) refl tt)
      (given_if (eqb m mark_qr)
      (λ t. byte_stands _ mark_qr (fragment_of b) root (eqb-true m mark_qr t) (fragment_is b)
      (λ k p. (ap (λ (c : ℕ). bytes_of 2 mark_qr ++ (c ∷ [])) p.0, p.1)))
      (given_if (eqb m mark_qv)
      (λ t. byte_stands _ mark_qv (variable_of b) variable (eqb-true m mark_qv t) (variable_is b)
      (λ k p. (ap (λ (c : ℕ). bytes_of 2 mark_qv ++ (c ∷ [])) p.0, p.1)))
      (given_if (eqb m mark_qs) (λ t. plain_stands mark_qs sequence (eqb-true m mark_qs t) refl tt)
      (given_if (eqb m mark_qt)
      (λ t. byte_stands _ mark_qt (variable_of b) letting (eqb-true m mark_qt t) (variable_is b)
      (λ k p. (ap (λ (c : ℕ). bytes_of 2 mark_qt ++ (c ∷ [])) p.0, p.1)))
      (given_if (eqb m mark_qf)
      (λ t. byte_stands _ mark_qf (variable_of b) for (eqb-true m mark_qf t) (variable_is b)
      (λ k p. (ap (λ (c : ℕ). bytes_of 2 mark_qf ++ (c ∷ [])) p.0, p.1)))
      (given_if (eqb m mark_qi) (λ t. plain_stands mark_qi choice (eqb-true m mark_qi t) refl tt)
      (given_if (eqb m mark_qo)
      (λ t. byte_stands _ mark_qo (function_of b) function (eqb-true m mark_qo t) (function_is b)
      (λ f p. (ap (λ (c : ℕ). bytes_of 2 mark_qo ++ (c ∷ [])) p, tt)))
      (given_if (eqb m mark_qc) (λ t. plain_stands mark_qc counting (eqb-true m mark_qc t) refl tt)
      (given_if (eqb m mark_qd) (λ t. plain_stands mark_qd values (eqb-true m mark_qd t) refl tt)
      (given_if (eqb m mark_qx) (λ t. step_stands (eqb-true m mark_qx t)) given_fails))))))))))))
