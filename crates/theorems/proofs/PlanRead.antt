-- The written plan of an accepted query reads back (document 01, 'Query records' and 'Plan operators').
--     RecordFields r      the fields of a record that is read: a plain cell, fragment 1 to 255, variable 0 to 7, a
--                         two-byte name
--     query_accepted      a query that is read from bytes is accepted
--     plan_back           a sound plan of at most 512 writable operators reads back as they stand
--     query_plan_back     so is the plan of a query that is read from bytes, if it has at most 512 operators
--     translated          where the translator gives n operators and m bytes, the first m lent bytes are that plan's
use Prim.Native.Nat.{ℕ, zero, suc, ◌+◌, ◌*◌, ◌-◌, ◌^◌, ◌≤◌, ◌<◌}
use mathlib.Core.Path.{◌≡◌, refl, sym, ◌∙◌, ap, ap₂, subst}
use mathlib.Core.List.{List, [], ◌∷◌, ◌++◌, map, append-nil, append_assoc, append_cancel_left, head-eq_of_cons-eq}
use mathlib.Core.List.{tail-eq_of_cons-eq}
use mathlib.Core.Bool.{Bool, true, false, cond, ◌&&◌}
use native.Mathlib.Omega.{arith}
use native.Mathlib.Nat.{zero-lt-suc}
use lib.Dec.{lit≤, eqb, ltb, leb, lit<}
use lib.IntN.{pos, negsuc}
use lib.ListN.{length, get_or, take, length-append}
use lib.Seq.{take_at}
use borrow.Author.Tests.{ltb-true, ltb-false, leb-true, lt-ltb, le-leb, lt-leb, eq-eqb}
use Rattle.cells.specs.Bytes.{byte_at, word, signed, int4, fits}
use Rattle.cells.specs.Cell.{held, false_cell, true_cell}
use Rattle.codes.specs.declared.Axis.{Axis}
use Rattle.codes.specs.declared.Test.TheVariants.{AnyNode, Element, Text, Named}
use Rattle.laws.specs.Attempt.{Attempt, fails, gives, attempt, provided, Reading, refuses, reads, reading, refusing}
use Rattle.laws.specs.Attempt.{unless}
use Rattle.meaning.specs.Query.{Query, QL, QE, QR, QV, QS, QT, QF, QI, QO, QC, QD, QX, Record, literal, empty, root}
use Rattle.meaning.specs.Query.{variable, sequence, letting, for, choice, function, counting, values, step, mark_ql}
use Rattle.meaning.specs.Query.{mark_qb, mark_qe, mark_qr, mark_qv, mark_qs, mark_qt, mark_qf, mark_qi, mark_qo, mark_qc, mark_qd}
use Rattle.meaning.specs.Query.{mark_qx, variable_of, fragment_of, boolean_of, sized, record_of}
use Rattle.codes.specs.Codes.{function_of, axis_of, test_of, test_name}
use Rattle.meaning.specs.Query.{record_at, Read, Operand, bound, leaf, one, two, three, operands, read, query_read}
use Rattle.meaning.specs.Plan.{plain_in, Op, RT, RA, RP, RU, RD, RS, RJ, RN, RF, RV, RC, RE, RK, RX, RO, operator_at}
use Rattle.meaning.specs.Plan.{width_of, Placed, placed_at, last_of, ended, plan_from, plan_read}
use Rattle.meaning.specs.Translation.{plan}
use Rattle.cells.specs.Bytes.{bytes_of}
use Rattle.laws.specs.Lists.{gather}
use Rattle.meaning.specs.Written.{operator_bytes, written}
use Rattle.meaning.specs.Calls.{refusal, plan_of, translate_outcome, translate_call}
use Rattle.laws.specs.Rows.{padded}
use Rattle.meaning.specs.Calls as Calls
use Rattle.theorems.proofs.PlanBytes.{writable_back, operator_small, operator_length}
use Rattle.theorems.specs.PlanBytes.{Byte}
use Rattle.theorems.proofs.PlanWidths.{every_append, attempt_gives, provided_gives, widths_count}
use Rattle.theorems.specs.PlanWidths.{Every, widths}
use Rattle.laws.proofs.Filters.{map_append}
use Rattle.codes.proofs.Numbers.{name_fits}
use Rattle.theorems.proofs.Ranges.{variable_below, fragment_within}
use Rattle.theorems.proofs.PlanSteps.{from_end, from_on, placed_is}
use Rattle.theorems.proofs.PlanFields.{plan_sound}
use Rattle.theorems.specs.PlanFields.{Writable, Fields}
use Rattle.theorems.specs.PlanRead.{ClosedFields, widths_of, places, PlanBack, TranslatedPlan}

-- The fields of a record that is read

unfoldable RecordFields : Record → Type 0
RecordFields (literal z) = plain_in (held z) ≡ true
RecordFields empty = Unit
RecordFields (root k) = (1 ≤ k) × (k ≤ 255)
RecordFields (variable v) = v < 8
RecordFields sequence = Unit
RecordFields (letting v) = v < 8
RecordFields (for v) = v < 8
RecordFields choice = Unit
RecordFields (function f) = Unit
RecordFields counting = Unit
RecordFields values = Unit
RecordFields (step x t) = test_name t < 65536

-- what holds of all that an attempt gives
abbrev WhereGiven : {A : Type 0} → (A → Type 0) → Attempt A → Type 0
WhereGiven P a = (x : _) → a ≡ gives x → P x

given_cond :
    {A : Type 0} (P : A → Type 0) (t : Bool) (a b : Attempt A) → (t ≡ true → WhereGiven P a) → WhereGiven P b →
    WhereGiven P (cond t a b)
given_cond P true a b h k = h refl
given_cond P false a b h k = k

given_one : {A : Type 0} (P : A → Type 0) (x : A) → P x → WhereGiven P (gives x)
given_one P x h y e = subst P (let p : x ≡ y = cc in p) h

given_none : {A : Type 0} (P : A → Type 0) → WhereGiven P fails
given_none P y e = let z : ◌≡◌ {A = ℕ} 0 1 = cc in absurd (omega arith)

given_provided :
    {A : Type 0} (P : A → Type 0) (t : Bool) (a : Attempt A) → (t ≡ true → WhereGiven P a) → WhereGiven P (provided t a)
given_provided P t a h x e = let (p, q) = provided_gives t a x e in h p x q

given_attempt :
    {A B : Type 0} (P : B → Type 0) (a : Attempt A) (f : A → Attempt B) → ((x : A) → a ≡ gives x → WhereGiven P (f x)) →
    WhereGiven P (attempt a f)
given_attempt P a f h y e = let (x, p, q) = attempt_gives a f y e in h x p y q

-- bytes
word_small : (bs : List ℕ) (at n : ℕ) → ((i : ℕ) → byte_at bs i < 256) → word bs at n < 256 ^ n
unfolding word
word_small bs at zero h = lit< tt
word_small bs at (suc n) h = omega (arith, word_small bs at n h, h (at + n))

plain_low : (u : ℕ) → u < 0x8000_0000 → plain_in (held (pos u)) ≡ true
unfolding plain_in held
plain_low u h = rw (lt-ltb u 0x8000_0000 h)

plain_high : (u : ℕ) → u < 0x8000_0000 → plain_in (held (negsuc u)) ≡ true
unfolding plain_in held
plain_high u h = rw (lt-ltb u 0x8000_0000 h)

signed_plain : (u : ℕ) → u < 0x1_0000_0000 → plain_in (held (signed 0x8000_0000 u)) ≡ true
unfolding signed
signed_plain u h = case (ltb u 0x8000_0000) refl
  where
    case : (t : Bool) → ltb u 0x8000_0000 ≡ t → plain_in (held (cond t (pos u) (negsuc (0xffff_ffff - u)))) ≡ true
    case true e = plain_low u (ltb-true u 0x8000_0000 e)
    case false e = let k = ltb-false u 0x8000_0000 e in plain_high (0xffff_ffff - u) (omega arith)

int4_plain : (bs : List ℕ) (at : ℕ) → ((i : ℕ) → byte_at bs i < 256) → plain_in (held (int4 bs at)) ≡ true
unfolding int4
int4_plain bs at h = signed_plain (word bs at 4) (omega (arith, word_small bs at 4 h))

boolean_plain : (b : ℕ) → WhereGiven (λ z. plain_in (held z) ≡ true) (boolean_of b)
unfolding boolean_of plain_in held
boolean_plain b =
    given_cond _ (eqb b 0) _ _ (λ e. given_one _ false_cell refl)
    (given_cond _ (eqb b 1) _ _ (λ e. given_one _ true_cell refl) (given_none _))

module _ (bs : List ℕ) (at : ℕ) (h : (i : ℕ) → byte_at bs i < 256) where
  abbrev First : Record × ℕ → Type 0
  First x = RecordFields x.0

  sized_fields : (n : ℕ) (a : Attempt Record) → WhereGiven RecordFields a → WhereGiven First (sized bs at n a)
  unfolding sized
  sized_fields n a g =
      given_provided First (fits bs at n) _ (λ e. given_attempt First a _ (λ r p. given_one First (r, at + n) (g r p)))

  plain : (n : ℕ) (r : Record) → RecordFields r → WhereGiven First (sized bs at n (gives r))
  plain n r g = sized_fields n (gives r) (given_one RecordFields r g)

  field :
      {A : Type 0} (n : ℕ) (a : Attempt A) (f : A → Record) →
      WhereGiven (λ x. RecordFields (f x)) a → WhereGiven First (sized bs at n (attempt a (λ x. gives (f x))))
  field n a f g =
      sized_fields n (attempt a (λ x. gives (f x)))
      (given_attempt RecordFields a (λ x. gives (f x)) (λ x p. given_one RecordFields (f x) (g x p)))

  step_fields :
      (a : Attempt Axis) (t : ℕ) →
      WhereGiven First
      (sized bs at 6 (attempt a (λ x. attempt (test_of t (word bs (at + 4) 2)) (λ y. gives (step x y)))))
  unfolding RecordFields
  step_fields a t =
      sized_fields 6 _
      (given_attempt RecordFields a _
      (λ x p.
      given_attempt RecordFields (test_of t (word bs (at + 4) 2)) _
      (λ y q.
      given_one RecordFields (step x y) ((name_fits t (word bs (at + 4) 2) (word_small bs (at + 4) 2 h)).given y q))))

  record_fields : (mark : ℕ) → WhereGiven First (record_of bs at mark)
  unfolding record_of RecordFields
  record_fields mark =
      let b = byte_at bs (at + 2) in
      given_cond First (eqb mark mark_ql) _ _ (λ e. plain 6 (literal (int4 bs (at + 2))) (int4_plain bs (at + 2) h))
      (given_cond First (eqb mark mark_qb) _ _ (λ e. field 3 (boolean_of b) literal (boolean_plain b))
      (given_cond First (eqb mark mark_qe) _ _ (λ e. plain 2 empty tt)
      (given_cond First (eqb mark mark_qr) _ _ (λ e. field 3 (fragment_of b) root (fragment_within b).given)
      (given_cond First (eqb mark mark_qv) _ _ (λ e. field 3 (variable_of b) variable (variable_below b).given)
      (given_cond First (eqb mark mark_qs) _ _ (λ e. plain 2 sequence tt)
      (given_cond First (eqb mark mark_qt) _ _ (λ e. field 3 (variable_of b) letting (variable_below b).given)
      (given_cond First (eqb mark mark_qf) _ _ (λ e. field 3 (variable_of b) for (variable_below b).given)
      (given_cond First (eqb mark mark_qi) _ _ (λ e. plain 2 choice tt)
      (given_cond First (eqb mark mark_qo) _ _ (λ e. field 3 (function_of b) function (λ f e. tt))
      (given_cond First (eqb mark mark_qc) _ _ (λ e. plain 2 counting tt)
      (given_cond First (eqb mark mark_qd) _ _ (λ e. plain 2 values tt)
      (given_cond First (eqb mark mark_qx) _ _ (λ e. step_fields (axis_of b) (byte_at bs (at + 3)))
      (given_none First)))))))))))))

-- An accepted query is closed, and its fields are in their ranges

-- readings taken apart
reads_same : {A : Type 0} (x y : A) → ◌≡◌ {A = Reading A} (reads x) (reads y) → x ≡ y
reads_same x y e = cc

refuses_reads : {A : Type 0} {P : Type 0} (n p : ℕ) (x : A) → refuses n p ≡ reads x → P
refuses_reads n p x e = let z : ◌≡◌ {A = ℕ} 0 1 = cc in absurd (omega arith)

reading_reads :
    {A B : Type 0} (a : Reading A) (f : A → Reading B) (b : B) → reading a f ≡ reads b →
    (x : A) × (a ≡ reads x) × (f x ≡ reads b)
unfolding reading
reading_reads (refuses n p) f b e = refuses_reads n p b e
reading_reads (reads x) f b e = (x, refl, e)

unless_reads :
    {A : Type 0} (t : Bool) (n p : ℕ) (a : Reading A) (x : A) → unless t n p a ≡ reads x → (t ≡ true) × (a ≡ reads x)
unfolding unless
unless_reads true n p a x e = (refl, e)
unless_reads false n p a x e = refuses_reads n p x e

refusing_reads : {A : Type 0} (n p : ℕ) (a : Attempt A) (x : A) → refusing n p a ≡ reads x → a ≡ gives x
unfolding refusing
refusing_reads n p fails x e = refuses_reads n p x e
refusing_reads n p (gives y) x e = ap gives (reads_same y x e)

-- the tree of what a reading reads
abbrev Trees : (Query → Type 0) → Reading Read → Type 0
Trees P a = (r : Read) → a ≡ reads r → P r.tree

leaf_tree : (P : Query → Type 0) (q : Query) (next n : ℕ) → P q → Trees P (leaf q next n)
unfolding leaf
leaf_tree P q next n h r e = subst (λ (x : Read). P x.tree) (reads_same _ r e) h

one_tree :
    (P Q : Query → Type 0) (f : Query → Query) (a : Reading Read) →
    ((q : Query) → P q → Q (f q)) → Trees P a → Trees Q (one f a)
unfolding one
one_tree P Q f a g h r e =
    let (x, p, q) = reading_reads a (λ x. leaf (f x.tree) x.next x.records) r e in
    leaf_tree Q (f x.tree) x.next x.records (g x.tree (h x p)) r q

two_tree :
    (P Q R : Query → Type 0) (f : Query → Query → Query) (a : Reading Read) (b : ℕ → ℕ → Reading Read) →
    ((p q : Query) → P p → Q q → R (f p q)) → Trees P a → ((n at : ℕ) → Trees Q (b n at)) → Trees R (two f a b)
unfolding two
two_tree P Q R f a b g h k r e =
    let (x, p, q) = reading_reads a (λ x. one (f x.tree) (b x.records x.next)) r e in
    one_tree Q R (f x.tree) (b x.records x.next) (λ y. g x.tree y (h x p)) (k x.records x.next) r q

three_tree :
    (P Q R S : Query → Type 0) (f : Query → Query → Query → Query) (c : Reading Read) (a b : ℕ → ℕ → Reading Read) →
    ((o p q : Query) → P o → Q p → R q → S (f o p q)) →
    Trees P c → ((n at : ℕ) → Trees Q (a n at)) → ((n at : ℕ) → Trees R (b n at)) → Trees S (three f c a b)
unfolding three
three_tree P Q R S f c a b g h k m r e =
    let (x, p, q) = reading_reads c (λ x. two (f x.tree) (a x.records x.next) b) r e in
    two_tree Q R S (f x.tree) (a x.records x.next) b
    (λ y z. g x.tree y z (h x p)) (k x.records x.next) m r q

abbrev ReadIn : List ℕ → Query → Type 0
ReadIn vs q = ClosedFields q vs

module _ (rd : Operand) (ih : (vs : List ℕ) (n at : ℕ)
    → Trees (ReadIn vs) (rd vs n at)) (vs : List ℕ) (at n next : ℕ) where
  variable_accepted : (v : ℕ) → v < 8 → Trees (ReadIn vs) (unless (bound v vs) 3 at (leaf (QV at v) next n))
  unfolding Fields
  variable_accepted v h r e =
      let (b, q) = unless_reads (bound v vs) 3 at (leaf (QV at v) next n) r e in
      leaf_tree (ReadIn vs) (QV at v) next n (record { closed = (b, h); fields = tt }) r q

  operands_accepted : (k : Record) → RecordFields k → Trees (ReadIn vs) (operands rd vs at n next k)
  unfolding operands RecordFields Fields
  operands_accepted (literal z) h = leaf_tree (ReadIn vs) (QL at z) next n (record { closed = tt; fields = h })
  operands_accepted empty h = leaf_tree (ReadIn vs) (QE at) next n (record { closed = tt; fields = tt })
  operands_accepted (root k) h = leaf_tree (ReadIn vs) (QR at k) next n (record { closed = tt; fields = h })
  operands_accepted (variable v) h = variable_accepted v h
  operands_accepted sequence h =
      two_tree (ReadIn vs) (ReadIn vs) (ReadIn vs) (QS at) (rd vs n next) (rd vs)
      (λ p q x y. record { closed = (x.closed, y.closed); fields = (x.fields, y.fields) })
      (ih vs n next) (ih vs)
  operands_accepted (letting v) h =
      two_tree (ReadIn vs) (ReadIn (v ∷ vs)) (ReadIn vs) (QT at v) (rd vs n next) (rd (v ∷ vs))
      (λ p q x y. record { closed = (h, x.closed, y.closed); fields = (x.fields, y.fields) })
      (ih vs n next) (ih (v ∷ vs))
  operands_accepted (for v) h =
      two_tree (ReadIn vs) (ReadIn (v ∷ vs)) (ReadIn vs) (QF at v) (rd vs n next) (rd (v ∷ vs))
      (λ p q x y. record { closed = (h, x.closed, y.closed); fields = (x.fields, y.fields) })
      (ih vs n next) (ih (v ∷ vs))
  operands_accepted choice h =
      three_tree (ReadIn vs) (ReadIn vs) (ReadIn vs) (ReadIn vs) (QI at) (rd vs n next) (rd vs) (rd vs)
      (λ o p q x y z.
      record { closed = (x.closed, y.closed, z.closed); fields = (x.fields, y.fields, z.fields) })
      (ih vs n next) (ih vs) (ih vs)
  operands_accepted (function f) h =
      two_tree (ReadIn vs) (ReadIn vs) (ReadIn vs) (QO at f) (rd vs n next) (rd vs)
      (λ p q x y. record { closed = (x.closed, y.closed); fields = (x.fields, y.fields) })
      (ih vs n next) (ih vs)
  operands_accepted counting h =
      one_tree (ReadIn vs) (ReadIn vs) (QC at) (rd vs n next)
      (λ q x. record { closed = x.closed; fields = x.fields })
      (ih vs n next)
  operands_accepted values h =
      one_tree (ReadIn vs) (ReadIn vs) (QD at) (rd vs n next)
      (λ q x. record { closed = x.closed; fields = x.fields })
      (ih vs n next)
  operands_accepted (step x t) h =
      one_tree (ReadIn vs) (ReadIn vs) (QX at x t) (rd vs n next)
      (λ q y. record { closed = y.closed; fields = (h, y.fields) })
      (ih vs n next)

pub read_accepted :
    (d : ℕ) (bs : List ℕ) → ((i : ℕ) → byte_at bs i < 256) →
    (vs : List ℕ) (n at : ℕ) (r : Read) → read d bs vs n at ≡ reads r → ClosedFields r.tree vs
unfolding read record_at
read_accepted zero bs h vs n at r e =
    let (x, p, q) = reading_reads (record_at bs at) (λ x. refuses 2 at) r e in
    refuses_reads 2 at r q
read_accepted (suc d) bs h vs n at r e =
    let go : Record × ℕ → Reading Read =
    λ x. unless (ltb n 128) 2 at (operands (read d bs) vs at (suc n) x.1 x.0)
    in
    let (x, p, q) = reading_reads (record_at bs at) go r e in
    let (t, s) = unless_reads (ltb n 128) 2 at (operands (read d bs) vs at (suc n) x.1 x.0) r q in
    let k = record_fields bs at h (word bs at 2) x (refusing_reads 1 at (record_of bs at (word bs at 2)) x p) in
    operands_accepted (read d bs) (read_accepted d bs h) vs at (suc n) x.1 x.0 k r s

pub query_accepted :
    (bs : List ℕ) → ((i : ℕ) → byte_at bs i < 256) → (r : Read) → query_read bs ≡ reads r → ClosedFields r.tree []
unfolding query_read
query_accepted bs h r e =
    let go : Read → Reading Read = λ x. unless (eqb x.next (length bs)) 1 x.next (reads x) in
    let (x, p, q) = reading_reads (read 32 bs [] 0 0) go r e in
    let (t, s) = unless_reads (eqb x.next (length bs)) 1 x.next (reads x) r q in
    read_accepted 32 bs h [] 0 0 r (p ∙ s)

-- A plan read back

pub places_ops :
    (at : ℕ) (os : List Op) (ws : List ℕ) → length ws ≡ length os → map (λ (p : Placed). p.op) (places at os ws) ≡ os
unfolding places
places_ops at [] ws e = refl
places_ops at (o ∷ os) [] e = absurd (omega arith)
places_ops at (o ∷ os) (w ∷ ws) e = ap (λ xs. o ∷ xs) (places_ops (at + length (operator_bytes o)) os ws (omega arith))

pub places_widths : (at : ℕ) (os : List Op) (ws : List ℕ) → length ws ≡ length os → widths_of (places at os ws) ≡ ws
unfolding places
places_widths at [] [] e = refl
places_widths at [] (w ∷ ws) e = absurd (omega arith)
places_widths at (o ∷ os) [] e = absurd (omega arith)
places_widths at (o ∷ os) (w ∷ ws) e =
    ap (λ xs. w ∷ xs) (places_widths (at + length (operator_bytes o)) os ws (omega arith))

-- operator i stands after the bytes of the operators before it
pub places_starts :
    (at : ℕ) (os : List Op) (ws : List ℕ) (i : ℕ) → length ws ≡ length os → i < length os →
    get_or (map (λ (p : Placed). p.at) (places at os ws)) i 0 ≡ at + length (written (take i os))
unfolding places written gather
places_starts at [] ws i e h = absurd (omega arith)
places_starts at (o ∷ os) [] i e h = absurd (omega arith)
places_starts at (o ∷ os) (w ∷ ws) zero e h = omega arith
places_starts at (o ∷ os) (w ∷ ws) (suc i) e h =
    places_starts (at + length (operator_bytes o)) os ws i (omega arith) (omega arith) ∙ simp length-append (omega arith)

-- no operator is without bytes
operator_bytes_lem : (o : Op) → 0 < length (operator_bytes o)
unfolding operator_bytes bytes_of
operator_bytes_lem RT = zero-lt-suc _
operator_bytes_lem (RA t z) = zero-lt-suc _
operator_bytes_lem (RP t cs) = zero-lt-suc _
operator_bytes_lem (RU t u) = zero-lt-suc _
operator_bytes_lem (RD t u) = zero-lt-suc _
operator_bytes_lem (RS t c) = zero-lt-suc _
operator_bytes_lem (RJ t c u d) = zero-lt-suc _
operator_bytes_lem (RN t p ks) = zero-lt-suc _
operator_bytes_lem (RF t f c d) = zero-lt-suc _
operator_bytes_lem (RV t c) = zero-lt-suc _
operator_bytes_lem (RC t c) = zero-lt-suc _
operator_bytes_lem (RE t) = zero-lt-suc _
operator_bytes_lem (RK t c) = zero-lt-suc _
operator_bytes_lem (RX t x y) = zero-lt-suc _
operator_bytes_lem (RO t k) = zero-lt-suc _

-- what operators add to the widths stands after them
widths_front : (os : List Op) (ws us : List ℕ) → widths ws os ≡ gives us → (vs : List ℕ) × (us ≡ ws ++ vs)
unfolding widths
widths_front [] ws us e = ([], let p : ws ≡ us = cc in sym p ∙ sym (append-nil ws))
widths_front (o ∷ os) ws us e =
    let (w, p, q) = attempt_gives (width_of ws o) (λ w. widths (ws ++ (w ∷ [])) os) us e in
    let (vs, r) = widths_front os (ws ++ (w ∷ [])) us q in
    (w ∷ vs, r ∙ append_assoc ws (w ∷ []) vs)

widths_next :
    (o : Op) (os : List Op) (ws vs : List ℕ) → widths ws (o ∷ os) ≡ gives (ws ++ vs) →
    (w : ℕ)
    × (us : List ℕ)
    × (vs ≡ w ∷ us)
    × (width_of ws o ≡ gives w)
    × (widths (ws ++ (w ∷ [])) os ≡ gives (ws ++ (w ∷ []) ++ us))
unfolding widths
widths_next o os ws vs e =
    let (w, p, q) = attempt_gives (width_of ws o) (λ w. widths (ws ++ (w ∷ [])) os) (ws ++ vs) e in
    let (us, r) = widths_front os (ws ++ (w ∷ [])) (ws ++ vs) q in
    (w, us, append_cancel_left ws vs (w ∷ us) (r ∙ append_assoc ws (w ∷ []) us), p, q ∙ ap gives r)

module _ (o : Op) (os : List Op) (left : ℕ) (xs : List ℕ) (ps : List Placed) (w : ℕ) (us : List ℕ) where
  abbrev ob : List ℕ
  ob = operator_bytes o

  abbrev placed : Placed
  placed = record { at = length xs; op = o; width = w }

  from_cons :
      Writable o → width_of (widths_of ps) o ≡ gives w →
      plan_from left (xs ++ ob ++ written os) (ps ++ (placed ∷ [])) (length (xs ++ ob))
      ≡ ended (ps ++ (placed ∷ []) ++ places (length (xs ++ ob)) os us) →
      plan_from (suc left) (xs ++ (ob ++ written os)) ps (length xs) ≡ ended (ps ++ places (length xs) (o ∷ os) (w ∷ us))
  unfolding places
  from_cons k q ih =
      let bs : List ℕ = xs ++ (ob ++ written os) in
      let there : length xs < length bs = simp length-append (omega (arith, operator_bytes_lem o)) in
      let next : ℕ = length xs + length ob in
      let one = placed_is bs (widths_of ps) (length xs) next o w (writable_back o k xs (written os)) q in
      from_on bs ps (length xs) there left next placed one
      ∙ ap₂ (λ b n. plan_from left b (ps ++ (placed ∷ [])) n)
      (sym (append_assoc xs ob (written os)))
      (sym (length-append xs ob))
      ∙ ih
      ∙ ap ended (append_assoc ps (placed ∷ []) (places (length (xs ++ ob)) os us))
      ∙ ap (λ n. ended (ps ++ placed ∷ places n os us)) (length-append xs ob)

-- the operators os from the end of xs on, after those in ps
from_back :
    (os : List Op) (left : ℕ) (xs : List ℕ) (ps : List Placed) (vs : List ℕ) →
    length os ≤ left → Every Writable os → widths (widths_of ps) os ≡ gives (widths_of ps ++ vs) →
    plan_from left (xs ++ written os) ps (length xs) ≡ ended (ps ++ places (length xs) os vs)
unfolding written gather places Every
from_back [] left xs ps vs h k e =
    from_end (xs ++ []) ps (length xs) left (simp append-nil (omega arith)) ∙ ap ended (sym (append-nil ps))
from_back (o ∷ os) zero xs ps vs h k e = absurd (omega arith)
from_back (o ∷ os) (suc left) xs ps vs h k e =
    let (w, us, p, q, r) = widths_next o os (widths_of ps) vs e in
    let more : widths_of (ps ++ (placed o os left xs ps w us ∷ [])) ≡ widths_of ps ++ (w ∷ []) = map_append _ ps _ in
    let ih =
    from_back os left (xs ++ operator_bytes o) (ps ++ (placed o os left xs ps w us ∷ [])) us (omega arith) k.1
    (subst (λ ws. widths ws os ≡ gives (ws ++ us)) (sym more) r)
    in
    from_cons o os left xs ps w us k.0 q ih ∙ ap (λ ws. ended (ps ++ places (length xs) (o ∷ os) ws)) (sym p)

-- the last width of a list that ends in w
last_width :
    (p : Placed) (ps : List Placed) (front : List ℕ) (w : ℕ) → widths_of (p ∷ ps) ≡ front ++ (w ∷ []) →
    (last_of p ps).width ≡ w
unfolding last_of
last_width p [] [] w e = head-eq_of_cons-eq e
last_width p [] (v ∷ front) w e = absurd (omega (arith, simp length-append at (ap length e)))
last_width p (q ∷ qs) [] w e = absurd (omega (arith, ap length e))
last_width p (q ∷ qs) (v ∷ front) w e = last_width q qs front w (tail-eq_of_cons-eq e)

ended_reads : (ps : List Placed) (front : List ℕ) → widths_of ps ≡ front ++ (3 ∷ []) → ended ps ≡ reads ps
unfolding ended unless
ended_reads [] front e = absurd (omega (arith, simp length-append at (ap length e)))
ended_reads (p ∷ ps) front e = rw (eq-eqb (last_of p ps).width 3 (last_width p ps front 3 e))

-- a sound plan of writable operators, at most 512 of them, reads back with its offsets and widths
pub plan_back :
    (os : List Op) (front : List ℕ) → length os ≤ 512 → Every Writable os → widths [] os ≡ gives (front ++ (3 ∷ [])) →
    plan_read (written os) ≡ reads (places 0 os (front ++ (3 ∷ [])))
unfolding plan_read
plan_back os front h k e =
    let ws : List ℕ = front ++ (3 ∷ []) in
    from_back os 512 [] [] ws h k e
    ∙ ended_reads (places 0 os ws) front (places_widths 0 os ws (omega (arith, widths_count os [] ws e)))

pub written_small : (os : List Op) → Every Writable os → Every Byte (written os)
unfolding written gather Every
written_small [] h = tt
written_small (o ∷ os) h =
    every_append Byte (operator_bytes o) (written os) (operator_small o h.0) (written_small os h.1)

pub written_length : (os : List Op) → Every Writable os → length (written os) ≤ 12 * length os
unfolding written gather Every
written_length [] h = lit≤ tt
written_length (o ∷ os) h =
    simp length-append (omega (arith, operator_length o h.0, written_length os h.1))

pub query_plan_back :
    (bs : List ℕ) (r : Read) → ((i : ℕ) → byte_at bs i < 256) → query_read bs ≡ reads r → length (plan r.tree) ≤ 512 →
    (ps : List Placed) × PlanBack (plan r.tree) ps
query_plan_back bs r h e few =
    let a = query_accepted bs h r e in
    let s = plan_sound r.tree a.closed a.fields (omega arith) in
    let os : List Op = plan r.tree in
    let ws : List ℕ = s.front ++ (3 ∷ []) in
    let ps : List Placed = places 0 os ws in (
      ps,
      record {
        front = s.front;
        sound = s.sound;
        each = s.each;
        bytes = written_small os s.writable;
        room = omega (arith, written_length os s.writable);
        back = plan_back os s.front few s.writable s.sound;
        ops = places_ops 0 os ws (omega (arith, widths_count os [] ws s.sound));
        placed = refl;
      },
    )

-- What the translator leaves in the lent bytes

outcome_reads :
    (lent n m : ℕ) (a : Reading (List Op)) → (translate_outcome lent a).answer ≡ Calls.gives (n ∷ m ∷ []) →
    (os : List Op) × (a ≡ reads os) × (n ≡ length os) × (m ≡ length (written os))
unfolding translate_outcome refusal
outcome_reads lent n m (refuses k p) e = let z : ◌≡◌ {A = ℕ} 0 1 = cc in absurd (omega arith)
outcome_reads lent n m (reads os) e =
    let p : length os ≡ n = cc in
    let q : length (written os) ≡ m = cc in
    (os, refl, sym p, sym q)

plan_reads : (lent : ℕ) (q : Query) (os : List Op) → plan_of lent q ≡ reads os → (os ≡ plan q) × (length (plan q) ≤ 512)
unfolding plan_of
plan_reads lent q os e =
    let (a, f) = unless_reads (leb (length (plan q)) 512) 2 0 _ os e in
    let (b, g) = unless_reads (leb (length (written (plan q))) lent) 8 0 (reads (plan q)) os f in
    (sym (reads_same (plan q) os g), leb-true (length (plan q)) 512 a)

take_padded : (lent m : ℕ) (xs : List ℕ) → m ≡ length xs → take m (padded 0 lent xs) ≡ xs
unfolding padded
take_padded lent m xs e = take_at xs _ m (sym e)

pub translated :
    (query : List ℕ) (lent n m : ℕ) → (translate_call query lent).answer ≡ Calls.gives (n ∷ m ∷ []) →
    TranslatedPlan query lent n m
unfolding translate_call translate_outcome
translated query lent n m e =
    let (os, p, hn, hm) = outcome_reads lent n m (reading (query_read query) (λ r. plan_of lent r.tree)) e in
    let (r, a, b) = reading_reads (query_read query) (λ r. plan_of lent r.tree) os p in
    let (c, few) = plan_reads lent r.tree os b in
    let left : (translate_call query lent).left ≡ padded 0 lent (written os) =
    ap (λ x. (translate_outcome lent x).left) p
    in
    record {
      read = r;
      accepted = a;
      operators = hn ∙ ap length c;
      within = omega (arith, ap length c);
      bytes = ap (take m) left ∙ take_padded lent m (written os) hm ∙ ap written c;
    }
