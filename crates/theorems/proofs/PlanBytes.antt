-- One operator's bytes read back as that operator (document 01, 'Items and cells' and 'Plan operators').
--     byte_at_lem, word_first, columns_at_lem, fits_at     reading past the bytes xs is reading from the start of what follows
--                                                  them
--     plain_mag           an integer's or a boolean's cell is in the signed 64-bit range
--     plan_record m t rest  a record with the mark R m, the table t and the rest
--     operator_back       that holds of every writable operator
--     operator_small      .. and its bytes are bytes
--     operator_length     .. at most 12
use Prim.Native.Nat.{ℕ, zero, suc, ◌+◌, ◌-◌, ◌/◌, ◌%◌, ◌≤◌, ◌<◌}
use mathlib.Core.Path.{◌≡◌, refl, ◌∙◌, ap, ap₂}
use mathlib.Core.List.{List, [], ◌∷◌, ◌++◌, append_assoc}
use mathlib.Core.Bool.{Bool, true, false, false≢true}
use native.Mathlib.Omega.{arith}
use native.Mathlib.Nat.{add-zero}
use lib.Dec.{eqb, ltb, leb, lit≤, lit<}
use lib.IntN.{ℤ, pos, negsuc}
use lib.Signed.{mag}
use lib.ListN.{length, take, length-append}
use lib.Seq.{get_or-append-add, drop-append-add, take-append_seam}
use borrow.Author.Tests.{ltb-true, leb-true, leb-false, ne_eqb, le-ltb, le-leb}
use Rattle.cells.specs.Bytes.{byte_at, word, signed, int8, fits, bytes_of, bits8}
use Rattle.cells.specs.Cell.{held}
use Rattle.cells.proofs.Bytes.{word_after, word_written, bits8_room, signed_bits8}
use Rattle.codes.specs.declared.Function.{Function}
use Rattle.codes.specs.declared.Function.TheVariants.{Add, Subtract, Multiply, Divide, Equal, Less}
use Rattle.codes.specs.declared.Axis.{Axis}
use Rattle.codes.specs.declared.Axis.TheVariants.{Child, Descendant, DescendantOrSelf, Itself, Parent, Ancestor}
use Rattle.codes.specs.declared.Axis.TheVariants.{Following, Preceding}
use Rattle.codes.specs.declared.Test.{Test}
use Rattle.codes.specs.declared.Test.TheVariants.{AnyNode, Element, Text, Named}
use Rattle.laws.specs.Attempt.{Attempt, gives, attempt, provided}
use Rattle.meaning.specs.Query.{fragment_of}
use Rattle.codes.proofs.Numbers.{function_back, axis_back, test_back}
use Rattle.codes.specs.Codes.{function_of, function_number, axis_number, test_number, test_name}
use Rattle.meaning.specs.Plan.{Op, RT, RA, RP, RU, RD, RS, RJ, RN, RF, RV, RC, RE, RK, RX, RO, mark_rt, mark_ra, mark_rp}
use Rattle.meaning.specs.Plan.{mark_ru, mark_rd, mark_rs, mark_rj, mark_rn, mark_rf, mark_rc, mark_re, mark_rk, mark_rx, mark_ro}
use Rattle.meaning.specs.Plan.{plain_in, columns_at, sized, attach_at, project_at, number_at, function_at, step_at, operator_of}
use Rattle.meaning.specs.Plan.{operator_at}
use Rattle.meaning.specs.Written.{operator_bytes}
use Rattle.theorems.proofs.PlanWidths.{every_append}
use Rattle.theorems.specs.PlanWidths.{Every}
use Rattle.theorems.specs.PlanFields.{Writable}
use Rattle.theorems.specs.PlanBytes.{ReadsBack, Byte}

-- Reading past xs

module _ (xs zs : List ℕ) where
  pub byte_at_lem : (i : ℕ) → byte_at (xs ++ zs) (length xs + i) ≡ byte_at zs i
  byte_at_lem i = get_or-append-add xs zs i 0

  pub word_first : (n : ℕ) → word (xs ++ zs) (length xs) n ≡ word zs 0 n
  word_first n = rw (← (add-zero (length xs))) (word_after xs zs 0 n)

  pub columns_at_lem : (i n : ℕ) → columns_at (xs ++ zs) (length xs + i) n ≡ columns_at zs i n
  unfolding columns_at
  columns_at_lem i n = rw drop-append-add

  pub fits_at : (n : ℕ) → n ≤ length zs → fits (xs ++ zs) (length xs) n ≡ true
  unfolding fits
  fits_at n h = le-leb (length xs + n) (length (xs ++ zs)) (simp length-append (omega arith))

  sized_at :
      (n : ℕ) (o : Op) (r : Attempt Op) → n ≤ length zs → r ≡ gives o →
      sized (xs ++ zs) (length xs) n r ≡ gives (o, length xs + n)
  unfolding sized provided attempt
  sized_at n o r h e = rw (fits_at n h, e)

-- Cells

-- a plain cell is far inside the signed 64-bit range
plain_pos : (n : ℕ) → plain_in (held (pos n)) ≡ true → n < 0x2_0000_0000
unfolding plain_in held
plain_pos n h = case (leb 0x2_0000_0000 n) refl
  where
    case : (t : Bool) → leb 0x2_0000_0000 n ≡ t → n < 0x2_0000_0000
    case true e =
        let k = leb-true 0x2_0000_0000 n e in
        let a = le-ltb n 0x8000_0000 (omega arith) in
        let b = ne_eqb n 0x1_0000_0000 (λ p. omega arith) in
        let c = ne_eqb n 0x1_0000_0001 (λ p. omega arith) in
        absurd (false≢true (rw (a, b, c, e) at h))
    case false e = leb-false 0x2_0000_0000 n e

plain_negsuc : (n : ℕ) → plain_in (held (negsuc n)) ≡ true → n < 0x8000_0000
unfolding plain_in held
plain_negsuc n h = case (ltb n 0x8000_0000) refl
  where
    case : (t : Bool) → ltb n 0x8000_0000 ≡ t → n < 0x8000_0000
    case true e = ltb-true n 0x8000_0000 e
    case false e = absurd (false≢true (rw e at h))

pub plain_mag : (z : ℤ) → plain_in (held z) ≡ true → mag z < 0x8000_0000_0000_0000
plain_mag (pos n) h = let k = plain_pos n h in omega arith
plain_mag (negsuc n) h = let k = plain_negsuc n h in omega arith

-- Numbers of functions, axes and tests

function_not_7 : (f : Function) → eqb (function_number f) 7 ≡ false
unfolding function_number
function_not_7 Add = refl
function_not_7 Subtract = refl
function_not_7 Multiply = refl
function_not_7 Divide = refl
function_not_7 Equal = refl
function_not_7 Less = refl

fragment_back : (k : ℕ) → 1 ≤ k → k ≤ 255 → fragment_of k ≡ gives k
unfolding fragment_of provided
fragment_back k h i = rw (le-leb 1 k h, le-leb k 255 i)

-- Operators: the mark R m, the number of a table, and the rest

operator_marked :
    (bs : List ℕ) (at m : ℕ) (r : Attempt (Op × ℕ)) → word bs at 2 ≡ m → operator_of bs at m ≡ r → operator_at bs at ≡ r
unfolding operator_at
operator_marked bs at m r p q = rw p q

back_RT :
    (xs ys : List ℕ) →
    operator_at (xs ++ (operator_bytes RT ++ ys)) (length xs) ≡ gives (RT, length xs + length (operator_bytes RT))
unfolding operator_bytes bytes_of operator_of word
back_RT xs ys =
    let zs : List ℕ = 0x52 ∷ 0x54 ∷ ys in
    operator_marked (xs ++ zs) (length xs) mark_rt _ (word_first xs zs 2)
    (sized_at xs zs 2 RT (gives RT) (omega arith) refl)

-- a record: the mark R m, the number of a table, and the rest
abbrev plan_record : ℕ → ℕ → List ℕ → List ℕ
plan_record m t rest = 0x52 ∷ m ∷ t / 256 % 256 ∷ t % 256 ∷ rest

module _ (xs : List ℕ) (m t : ℕ) (h : t < 65536) (rest : List ℕ) where
  mark_back : word (xs ++ plan_record m t rest) (length xs) 2 ≡ 0x5200 + m
  unfolding word
  mark_back = word_first xs (plan_record m t rest) 2 ∙ (omega arith)

  table_back : word (xs ++ plan_record m t rest) (length xs + 2) 2 ≡ t
  unfolding bytes_of
  table_back = word_after xs (plan_record m t rest) 2 2 ∙ word_written (0x52 ∷ m ∷ []) rest 2 t h

  -- a record of n bytes, by what its mark says of its fields
  record_back :
      (n : ℕ) (o : Op) (r : Attempt Op) → n ≤ 4 + length rest → r ≡ gives o →
      operator_of (xs ++ plan_record m t rest) (length xs) (0x5200 + m)
      ≡ sized (xs ++ plan_record m t rest) (length xs) n r →
      operator_at (xs ++ plan_record m t rest) (length xs) ≡ gives (o, length xs + n)
  record_back n o r k p q =
      operator_marked (xs ++ plan_record m t rest) (length xs) (0x5200 + m) _ mark_back
      (q ∙ sized_at xs (plan_record m t rest) n o r (omega arith) p)

back_RE : (t : ℕ) → t < 65536 → ReadsBack (RE t)
unfolding operator_bytes bytes_of operator_of
back_RE t h xs ys =
    record_back xs 0x45 t h ys 4 (RE t) _ (omega arith) (ap (λ a. gives (RE a)) (table_back xs 0x45 t h ys)) refl

-- two tables
module _ (m t u : ℕ) (h : t < 65536) (k : u < 65536) (xs ys : List ℕ) where
  second_back : word (xs ++ plan_record m t (bytes_of 2 u ++ ys)) (length xs + 4) 2 ≡ u
  second_back =
      word_after xs (plan_record m t (bytes_of 2 u ++ ys)) 4 2
      ∙ word_written (0x52 ∷ m ∷ t / 256 % 256 ∷ t % 256 ∷ []) ys 2 u k

back_RU : (t u : ℕ) → t < 65536 → u < 65536 → ReadsBack (RU t u)
unfolding operator_bytes bytes_of operator_of
back_RU t u h k xs ys =
    record_back xs 0x55 t h (bytes_of 2 u ++ ys) 6 (RU t u) _ (omega arith)
    (ap₂ (λ a b. gives (RU a b)) (table_back xs 0x55 t h (bytes_of 2 u ++ ys)) (second_back 0x55 t u h k xs ys)) refl

back_RD : (t u : ℕ) → t < 65536 → u < 65536 → ReadsBack (RD t u)
unfolding operator_bytes bytes_of operator_of
back_RD t u h k xs ys =
    record_back xs 0x44 t h (bytes_of 2 u ++ ys) 6 (RD t u) _ (omega arith)
    (ap₂ (λ a b. gives (RD a b)) (table_back xs 0x44 t h (bytes_of 2 u ++ ys)) (second_back 0x44 t u h k xs ys)) refl

-- one column
column_back :
    (f : ℕ → ℕ → Op) (m t c : ℕ) (xs ys : List ℕ) → t < 65536 →
    ((bs : List ℕ) (at : ℕ) →
    operator_of bs at (0x5200 + m) ≡ sized bs at 5 (gives (f (word bs (at + 2) 2) (byte_at bs (at + 4))))) →
    operator_at (xs ++ plan_record m t (c ∷ ys)) (length xs) ≡ gives (f t c, length xs + 5)
column_back f m t c xs ys h q =
    record_back xs m t h (c ∷ ys) 5 (f t c) _ (omega arith)
    (ap₂ (λ a b. gives (f a b)) (table_back xs m t h (c ∷ ys)) (byte_at_lem xs (plan_record m t (c ∷ ys)) 4))
    (q (xs ++ plan_record m t (c ∷ ys)) (length xs))

back_RS : (t c : ℕ) → t < 65536 → ReadsBack (RS t c)
unfolding operator_bytes bytes_of operator_of
back_RS t c h xs ys = column_back RS 0x53 t c xs ys h (λ bs at. refl)

back_RC : (t c : ℕ) → t < 65536 → ReadsBack (RC t c)
unfolding operator_bytes bytes_of operator_of
back_RC t c h xs ys = column_back RC 0x43 t c xs ys h (λ bs at. refl)

back_RK : (t c : ℕ) → t < 65536 → ReadsBack (RK t c)
unfolding operator_bytes bytes_of operator_of
back_RK t c h xs ys = column_back RK 0x4B t c xs ys h (λ bs at. refl)

-- a cell
module _ (t : ℕ) (z : ℤ) (h : t < 65536) (p : plain_in (held z) ≡ true) (xs ys : List ℕ) where
  abbrev cell_rest : List ℕ
  cell_rest = bytes_of 8 (bits8 z) ++ ys

  cell_back : int8 (xs ++ plan_record 0x41 t cell_rest) (length xs + 4) ≡ z
  unfolding int8
  cell_back =
      ap (signed 0x8000_0000_0000_0000)
      (word_after xs (plan_record 0x41 t cell_rest) 4 8
      ∙ word_written (0x52 ∷ 0x41 ∷ t / 256 % 256 ∷ t % 256 ∷ []) ys 8 (bits8 z) (bits8_room z (plain_mag z p)))
      ∙ signed_bits8 z (plain_mag z p)

attach_back :
    (bs : List ℕ) (at t : ℕ) (y z : ℤ) → word bs (at + 2) 2 ≡ t → y ≡ z → plain_in (held z) ≡ true →
    attach_at bs at y ≡ gives (RA t z)
unfolding attach_at provided
attach_back bs at t y z a b p = rw (b, p, a)

back_RA : (t : ℕ) (z : ℤ) → t < 65536 → plain_in (held z) ≡ true → ReadsBack (RA t z)
unfolding operator_bytes bytes_of operator_of
back_RA t z h p xs ys =
    let rest : List ℕ = bytes_of 8 (bits8 z) ++ ys in
    record_back xs 0x41 t h rest 12 (RA t z) _ (omega arith)
    (attach_back (xs ++ plan_record 0x41 t rest) (length xs) t _ z
    (table_back xs 0x41 t h rest) (cell_back t z h p xs ys) p)
    refl

back_RO : (t k : ℕ) → t < 65536 → 1 ≤ k → k ≤ 255 → ReadsBack (RO t k)
unfolding operator_bytes bytes_of operator_of attempt
back_RO t k h i j xs ys =
    let zs : List ℕ = plan_record 0x4F t (k ∷ ys) in
    record_back xs 0x4F t h (k ∷ ys) 5 (RO t k) _ (omega arith)
    (rw (byte_at_lem xs zs 4, fragment_back k i j) (ap (λ a. gives (RO a k)) (table_back xs 0x4F t h (k ∷ ys))))
    refl

back_RJ : (t c u d : ℕ) → t < 65536 → u < 65536 → ReadsBack (RJ t c u d)
unfolding operator_bytes bytes_of operator_of
back_RJ t c u d h k xs ys =
    let rest : List ℕ = c ∷ (bytes_of 2 u ++ (d ∷ ys)) in
    let zs : List ℕ = plan_record 0x4A t rest in
    let a = table_back xs 0x4A t h rest in
    let b = byte_at_lem xs zs 4 in
    let other =
    word_after xs zs 5 2 ∙ word_written (0x52 ∷ 0x4A ∷ t / 256 % 256 ∷ t % 256 ∷ c ∷ []) (d ∷ ys) 2 u k
    in
    let e = byte_at_lem xs zs 7 in
    record_back xs 0x4A t h rest 8 (RJ t c u d) _ (omega arith) (λ i. gives (RJ (a i) (b i) (other i) (e i))) refl

-- a list of columns, after its length
take_back : (cs ys : List ℕ) → take (length cs) (cs ++ ys) ≡ cs
take_back cs ys = take-append_seam cs ys

project_back :
    (bs : List ℕ) (at t : ℕ) (cs : List ℕ) → word bs (at + 2) 2 ≡ t → columns_at bs (at + 5) (length cs) ≡ cs →
    1 ≤ length cs → length cs ≤ 6 → project_at bs at (length cs) ≡ gives (RP t cs)
unfolding project_at provided
project_back bs at t cs a b i j = rw (le-leb 1 (length cs) i, le-leb (length cs) 6 j, a, b)

back_RP : (t : ℕ) (cs : List ℕ) → t < 65536 → 1 ≤ length cs → length cs ≤ 6 → ReadsBack (RP t cs)
unfolding operator_bytes bytes_of operator_of columns_at
back_RP t cs h i j xs ys =
    let rest : List ℕ = length cs ∷ (cs ++ ys) in
    let zs : List ℕ = plan_record 0x50 t rest in
    let bs : List ℕ = xs ++ zs in
    let b : byte_at bs (length xs + 4) ≡ length cs = byte_at_lem xs zs 4 in
    let c : columns_at bs (length xs + 5) (length cs) ≡ cs = columns_at_lem xs zs 5 (length cs) ∙ take_back cs ys in
    record_back xs 0x50 t h rest (5 + length cs) (RP t cs) (project_at bs (length xs) (length cs))
    (simp length-append (omega arith))
    (project_back bs (length xs) t cs (table_back xs 0x50 t h rest) c i j)
    (ap (λ n. sized bs (length xs) (5 + n) (project_at bs (length xs) n)) b)
    ∙ ap (λ n. gives (RP t cs, length xs + n)) (omega arith)

number_back :
    (bs : List ℕ) (at t p : ℕ) (ks : List ℕ) → word bs (at + 2) 2 ≡ t → byte_at bs (at + 4) ≡ p →
    columns_at bs (at + 6) (length ks) ≡ ks → 1 ≤ length ks → length ks ≤ 2 →
    number_at bs at (length ks) ≡ gives (RN t p ks)
unfolding number_at provided
number_back bs at t p ks a b c i j = rw (le-leb 1 (length ks) i, le-leb (length ks) 2 j, a, b, c)

back_RN : (t p : ℕ) (ks : List ℕ) → t < 65536 → 1 ≤ length ks → length ks ≤ 2 → ReadsBack (RN t p ks)
unfolding operator_bytes bytes_of operator_of columns_at
back_RN t p ks h i j xs ys =
    let rest : List ℕ = p ∷ length ks ∷ (ks ++ ys) in
    let zs : List ℕ = plan_record 0x4E t rest in
    let bs : List ℕ = xs ++ zs in
    let b : byte_at bs (length xs + 5) ≡ length ks = byte_at_lem xs zs 5 in
    let c : columns_at bs (length xs + 6) (length ks) ≡ ks = columns_at_lem xs zs 6 (length ks) ∙ take_back ks ys in
    record_back xs 0x4E t h rest (6 + length ks) (RN t p ks) (number_at bs (length xs) (length ks))
    (simp length-append (omega arith))
    (number_back bs (length xs) t p ks (table_back xs 0x4E t h rest) (byte_at_lem xs zs 4) c i j)
    (ap (λ n. sized bs (length xs) (6 + n) (number_at bs (length xs) n)) b)
    ∙ ap (λ n. gives (RN t p ks, length xs + n)) (omega arith)

three_more : (n : ℕ) → 7 ≤ 4 + suc (suc (suc n))
three_more n = omega arith

four_more : (n : ℕ) → 8 ≤ 4 + suc (suc (suc (suc n)))
four_more n = omega arith

-- a function of two columns, or of one
back_RF : (t : ℕ) (f : Function) (c d : ℕ) → t < 65536 → ReadsBack (RF t f c d)
unfolding operator_bytes bytes_of operator_of function_at attempt
back_RF t f c d h xs ys =
    let rest : List ℕ = function_number f ∷ c ∷ d ∷ ys in
    let zs : List ℕ = plan_record 0x46 t rest in
    let bs : List ℕ = xs ++ zs in
    let number : byte_at bs (length xs + 4) ≡ function_number f = byte_at_lem xs zs 4 in
    let a = table_back xs 0x46 t h rest in
    let b : byte_at bs (length xs + 5) ≡ c = byte_at_lem xs zs 5 in
    let e : byte_at bs (length xs + 6) ≡ d = byte_at_lem xs zs 6 in
    let r : Attempt Op =
    attempt (function_of (function_number f))
    (λ g. gives (RF (word bs (length xs + 2) 2) g (byte_at bs (length xs + 5)) (byte_at bs (length xs + 6))))
    in
    record_back xs 0x46 t h rest 7 (RF t f c d) r (three_more (length ys))
    (rw (function_back f) (λ i. gives (RF (a i) f (b i) (e i))))
    (rw (number, function_not_7 f))

back_RV : (t c : ℕ) → t < 65536 → ReadsBack (RV t c)
unfolding operator_bytes bytes_of operator_of function_at
back_RV t c h xs ys =
    let rest : List ℕ = 7 ∷ c ∷ ys in
    let zs : List ℕ = plan_record 0x46 t rest in
    let bs : List ℕ = xs ++ zs in
    let number : byte_at bs (length xs + 4) ≡ 7 = byte_at_lem xs zs 4 in
    let a = table_back xs 0x46 t h rest in
    let b : byte_at bs (length xs + 5) ≡ c = byte_at_lem xs zs 5 in
    record_back xs 0x46 t h rest 6 (RV t c) _ (omega arith) (λ i. gives (RV (a i) (b i)))
    (rw number)

step_back :
    (bs : List ℕ) (at t : ℕ) (x : Axis) (y : Test) → word bs (at + 2) 2 ≡ t → byte_at bs (at + 4) ≡ axis_number x →
    byte_at bs (at + 5) ≡ test_number y → word bs (at + 6) 2 ≡ test_name y → step_at bs at ≡ gives (RX t x y)
unfolding step_at attempt
step_back bs at t x y a b c d = rw (b, axis_back x, c, d, test_back y, a)

back_RX : (t : ℕ) (x : Axis) (y : Test) → t < 65536 → test_name y < 65536 → ReadsBack (RX t x y)
unfolding operator_bytes bytes_of operator_of
back_RX t x y h k xs ys =
    let rest : List ℕ = axis_number x ∷ test_number y ∷ (bytes_of 2 (test_name y) ++ ys) in
    let zs : List ℕ = plan_record 0x58 t rest in
    let bs : List ℕ = xs ++ zs in
    let axis : byte_at bs (length xs + 4) ≡ axis_number x = byte_at_lem xs zs 4 in
    let test : byte_at bs (length xs + 5) ≡ test_number y = byte_at_lem xs zs 5 in
    let name : word bs (length xs + 6) 2 ≡ test_name y =
    word_after xs zs 6 2
    ∙ word_written (0x52 ∷ 0x58 ∷ t / 256 % 256 ∷ t % 256 ∷ axis_number x ∷ test_number y ∷ []) ys 2 (test_name y) k
    in
    record_back xs 0x58 t h rest 8 (RX t x y) (step_at bs (length xs)) (four_more (length ys))
    (step_back bs (length xs) t x y (table_back xs 0x58 t h rest) axis test name)
    refl

pub writable_back : (o : Op) → Writable o → ReadsBack o
unfolding Writable
writable_back RT w = back_RT
writable_back (RA t z) w = back_RA t z w.0 w.1
writable_back (RP t cs) w = back_RP t cs w.0 w.1 w.2
writable_back (RU t u) w = back_RU t u w.0 w.1
writable_back (RD t u) w = back_RD t u w.0 w.1
writable_back (RS t c) w = back_RS t c w.0
writable_back (RJ t c u d) w = back_RJ t c u d w.0 w.2
writable_back (RN t p ks) w = back_RN t p ks w.0 w.2 w.3
writable_back (RF t f c d) w = back_RF t f c d w.0
writable_back (RV t c) w = back_RV t c w.0
writable_back (RC t c) w = back_RC t c w.0
writable_back (RE t) w = back_RE t w
writable_back (RK t c) w = back_RK t c w.0
writable_back (RX t x y) w = back_RX t x y w.0 w.1
writable_back (RO t k) w = back_RO t k w.0 w.1 w.2

-- the bytes of an operator read back as it, wherever they stand
pub operator_back :
    (o : Op) (xs ys : List ℕ) → Writable o →
    operator_at (xs ++ operator_bytes o ++ ys) (length xs) ≡ gives (o, length xs + length (operator_bytes o))
operator_back o xs ys w = rw append_assoc (writable_back o w xs ys)

-- every byte of a writable operator is a byte

bytes_small : (n u : ℕ) → Every Byte (bytes_of n u)
unfolding bytes_of Every
bytes_small zero u = tt
bytes_small (suc n) u =
    every_append Byte (bytes_of n (u / 256)) (u % 256 ∷ []) (bytes_small n (u / 256)) (omega arith, tt)

-- the mark and the table, then the rest
head_small : (m t : ℕ) (rest : List ℕ) → Every Byte rest → Every Byte (bytes_of 2 m ++ bytes_of 2 t ++ rest)
head_small m t rest h =
    every_append Byte (bytes_of 2 m ++ bytes_of 2 t) rest
    (every_append Byte (bytes_of 2 m) (bytes_of 2 t) (bytes_small 2 m) (bytes_small 2 t))
    h

function_small : (f : Function) → function_number f < 256
unfolding function_number
function_small Add = lit< tt
function_small Subtract = lit< tt
function_small Multiply = lit< tt
function_small Divide = lit< tt
function_small Equal = lit< tt
function_small Less = lit< tt

axis_small : (x : Axis) → axis_number x < 256
unfolding axis_number
axis_small Child = lit< tt
axis_small Descendant = lit< tt
axis_small DescendantOrSelf = lit< tt
axis_small Itself = lit< tt
axis_small Parent = lit< tt
axis_small Ancestor = lit< tt
axis_small Following = lit< tt
axis_small Preceding = lit< tt

test_small : (y : Test) → test_number y < 256
unfolding test_number
test_small AnyNode = lit< tt
test_small Element = lit< tt
test_small Text = lit< tt
test_small (Named n) = lit< tt

below_256 : {a b : ℕ} → a ≤ b → suc b ≤ 256 → a < 256
below_256 h k = omega arith

pub operator_small : (o : Op) → Writable o → Every Byte (operator_bytes o)
unfolding operator_bytes Writable Every
operator_small RT w = bytes_small 2 mark_rt
operator_small (RA t z) w = head_small mark_ra t (bytes_of 8 (bits8 z)) (bytes_small 8 (bits8 z))
operator_small (RP t cs) w = head_small mark_rp t (length cs ∷ cs) (below_256 w.2 (lit≤ tt), w.3)
operator_small (RU t u) w = head_small mark_ru t (bytes_of 2 u) (bytes_small 2 u)
operator_small (RD t u) w = head_small mark_rd t (bytes_of 2 u) (bytes_small 2 u)
operator_small (RS t c) w = head_small mark_rs t (c ∷ []) (w.1, tt)
operator_small (RJ t c u d) w =
    every_append Byte (bytes_of 2 mark_rj ++ bytes_of 2 t ++ (c ∷ bytes_of 2 u)) (d ∷ [])
    (head_small mark_rj t (c ∷ bytes_of 2 u) (w.1, bytes_small 2 u))
    (w.3, tt)
operator_small (RN t p ks) w = head_small mark_rn t (p ∷ length ks ∷ ks) (w.1, (below_256 w.3 (lit≤ tt), w.4))
operator_small (RF t f c d) w =
    head_small mark_rf t (function_number f ∷ c ∷ d ∷ []) (function_small f, (w.1, (w.2, tt)))
operator_small (RV t c) w = head_small mark_rf t (7 ∷ c ∷ []) (lit< tt, (w.1, tt))
operator_small (RC t c) w = head_small mark_rc t (c ∷ []) (w.1, tt)
operator_small (RE t) w = every_append Byte (bytes_of 2 mark_re) (bytes_of 2 t) (bytes_small 2 mark_re) (bytes_small 2 t)
operator_small (RK t c) w = head_small mark_rk t (c ∷ []) (w.1, tt)
operator_small (RX t x y) w =
    head_small mark_rx t (axis_number x ∷ test_number y ∷ bytes_of 2 (test_name y))
    (axis_small x, (test_small y, bytes_small 2 (test_name y)))
operator_small (RO t k) w = head_small mark_ro t (k ∷ []) (below_256 w.2 (lit≤ tt), tt)

-- an operator has at most 12 bytes
pub operator_length : (o : Op) → Writable o → length (operator_bytes o) ≤ 12
unfolding operator_bytes bytes_of Writable
operator_length RT w = lit≤ tt
operator_length (RA t z) w = lit≤ tt
operator_length (RP t cs) w = let h = w.2 in omega arith
operator_length (RU t u) w = lit≤ tt
operator_length (RD t u) w = lit≤ tt
operator_length (RS t c) w = lit≤ tt
operator_length (RJ t c u d) w = lit≤ tt
operator_length (RN t p ks) w = let h = w.3 in omega arith
operator_length (RF t f c d) w = lit≤ tt
operator_length (RV t c) w = lit≤ tt
operator_length (RC t c) w = lit≤ tt
operator_length (RE t) w = lit≤ tt
operator_length (RK t c) w = lit≤ tt
operator_length (RX t x y) w = lit≤ tt
operator_length (RO t k) w = lit≤ tt
