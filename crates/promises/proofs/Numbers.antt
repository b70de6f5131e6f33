-- The numbers that each reader can refuse by.
--     Only P m                   what reading m refuses by, if it refuses, is P
--     only-..                    .. through each function on readings
--     catalogue_four, plan_five, query_three     a catalogue: 4; a plan: 5; a query: 1, 2 or 3
use Prim.Native.Nat.{ℕ, zero, suc, ◌+◌, ◌*◌, ◌≤◌}
use mathlib.Core.Path.{◌≡◌, refl, subst}
use mathlib.Core.List.{List, [], ◌∷◌, ◌++◌, map}
use mathlib.Core.Bool.{Bool, true, false}
use native.Mathlib.Omega.{arith}
use lib.Dec.{ltb, leb, eqb}
use lib.ListN.{length}
use Rattle.cells.specs.Bytes.{byte_at, word}
use Rattle.laws.specs.Attempt.{Attempt, fails, gives, Reading, refuses, reads, reading, unless, refusing}
use Rattle.laws.proofs.Outcomes.{refuses_reads}
use Rattle.meaning.specs.Catalogue.{Catalogue, catalogue_of, row_sound, rows_sound, deeper, sizes_exact, catalogue_read}
use Rattle.meaning.specs.Query as Q
use Rattle.meaning.specs.Query.{Query, Record, Read, Operand, record_of, record_at, bound, leaf, one, two, three}
use Rattle.meaning.specs.Query.{operands, read, query_read, QS, QT, QF, QI, QO, QC, QD, QX}
use Rattle.meaning.specs.Plan.{Placed, placed_at, last_of, ended, plan_from, plan_read}

record Only {A : Type 0} (P : ℕ → Type 0) (m : Reading A) : Type 0 where
  only : (n p : ℕ) → m ≡ refuses n p → P n

module _ {A : Type 0} {P : ℕ → Type 0} where
  only_reads : {x : A} → Only P (reads x)
  only_reads {x = x} = record { only = λ n p e. let z : ◌≡◌ {A = ℕ} 0 1 = cc in absurd (omega arith) }

  only_refuses : {n p : ℕ} → P n → Only {A = A} P (refuses n p)
  only_refuses h = record { only = λ n p e. subst P (cc) h }

  only_unless : {m : Reading A} (t : Bool) (n p : ℕ) → P n → Only P m → Only P (unless t n p m)
  unfolding unless
  only_unless true n p h k = k
  only_unless false n p h k = only_refuses h

  only_refusing : (a : Attempt A) (n p : ℕ) → P n → Only P (refusing n p a)
  unfolding refusing
  only_refusing fails n p h = only_refuses h
  only_refusing (gives x) n p h = only_reads

only_reading : {A B : Type 0} {P : ℕ → Type 0} {f : A → Reading B} (m : Reading A)
    → Only P m → ((x : A) → Only P (f x)) → Only P (reading m f)
unfolding reading
only_reading (refuses n p) h k = only_refuses (h.only n p refl)
only_reading (reads x) h k = k x

-- A catalogue

rows_four : (left : ℕ) (doc : List ℕ) (r most : ℕ) → Only (λ n. n ≡ 4) (rows_sound left doc r most)
unfolding rows_sound
rows_four zero doc r most = only_unless (leb (length doc) (10 * r)) 4 _ refl only_reads
rows_four (suc left) doc r most =
    go (leb (length doc) (10 * r))
    (only_unless (row_sound doc r most) 4 _ refl (rows_four left doc (suc r) (suc (byte_at doc (10 * r + 4)))))
  where
    go : {m : Reading ℕ} (t : Bool) → Only (λ n. n ≡ 4) m
        → Only {A = ℕ} (λ n. n ≡ 4) (elim t [ true ↦ reads r | false ↦ m ])
    go true h = only_reads
    go false h = h

sizes_four : (c : Catalogue) (r n : ℕ) → Only (λ k. k ≡ 4) (sizes_exact c r n)
unfolding sizes_exact
sizes_four c r zero = only_reads
sizes_four c r (suc n) = only_unless _ 4 _ refl (sizes_four c (suc r) n)

pub catalogue_four : (doc : List ℕ) (n p : ℕ) → catalogue_read doc ≡ refuses n p → n ≡ 4
unfolding catalogue_read
catalogue_four doc =
    (only_reading (rows_sound 2048 doc 0 0) (rows_four 2048 doc 0 0) (λ n. sizes_four (catalogue_of doc n) 0 n)).only

-- A plan

ended_five : (ps : List Placed) → Only (λ n. n ≡ 5) (ended ps)
unfolding ended
ended_five [] = only_refuses refl
ended_five (p ∷ ps) = only_unless _ 5 _ refl only_reads

from_five : (left : ℕ) (bs : List ℕ) (ps : List Placed) (at : ℕ) → Only (λ n. n ≡ 5) (plan_from left bs ps at)
unfolding plan_from
from_five zero bs ps at = go (leb (length bs) at)
  where
    go : (t : Bool) → Only {A = List Placed} (λ n. n ≡ 5) (elim t [ true ↦ ended ps | false ↦ refuses 5 at ])
    go true = ended_five ps
    go false = only_refuses refl
from_five (suc left) bs ps at =
    go (leb (length bs) at)
    (only_reading _ (only_refusing (placed_at bs (map (λ (p : Placed). p.width) ps) at) 5 at refl)
    (λ o. from_five left bs (ps ++ (o.0 ∷ [])) o.1))
  where
    go : {m : Reading (List Placed)} (t : Bool) → Only (λ n. n ≡ 5) m
        → Only {A = List Placed} (λ n. n ≡ 5) (elim t [ true ↦ ended ps | false ↦ m ])
    go true h = ended_five ps
    go false h = h

pub plan_five : (bytes : List ℕ) (n p : ℕ) → plan_read bytes ≡ refuses n p → n ≡ 5
unfolding plan_read
plan_five bytes = (from_five 512 bytes [] 0).only

-- A query

abbrev ThreeNumbers : ℕ → Type 0
ThreeNumbers n = (1 ≤ n) × (n ≤ 3)

leaf_three : (q : Query) (next n : ℕ) → Only ThreeNumbers (leaf q next n)
unfolding leaf
leaf_three q next n = only_reads

one_three : (f : Query → Query) (a : Reading Read) → Only ThreeNumbers a → Only ThreeNumbers (one f a)
unfolding one
one_three f a h = only_reading a h (λ x. leaf_three _ _ _)

two_three : (f : Query → Query → Query) (a : Reading Read) (b : ℕ → ℕ → Reading Read)
    → Only ThreeNumbers a → ((n at : ℕ) → Only ThreeNumbers (b n at)) → Only ThreeNumbers (two f a b)
unfolding two
two_three f a b h k = only_reading a h (λ x. one_three _ _ (k x.records x.next))

three_three : (f : Query → Query → Query → Query) (c : Reading Read) (a b : ℕ → ℕ → Reading Read)
    → Only ThreeNumbers c → ((n at : ℕ) → Only ThreeNumbers (a n at)) → ((n at : ℕ) → Only ThreeNumbers (b n at))
    → Only ThreeNumbers (three f c a b)
unfolding three
three_three f c a b h k l = only_reading c h (λ x. two_three _ _ b (k x.records x.next) l)

module _ (rd : Operand) (h : (vs : List ℕ) (n at : ℕ) → Only ThreeNumbers (rd vs n at)) where
  operands_three : (vs : List ℕ) (at n next : ℕ) (r : Record) → Only ThreeNumbers (operands rd vs at n next r)
  unfolding operands
  operands_three vs at n next (Q.literal z) = leaf_three _ next n
  operands_three vs at n next Q.empty = leaf_three _ next n
  operands_three vs at n next (Q.root k) = leaf_three _ next n
  operands_three vs at n next (Q.variable v) = only_unless (bound v vs) 3 at (omega arith, omega arith)
      (leaf_three _ next n)
  operands_three vs at n next Q.sequence = two_three _ _ _ (h vs n next) (h vs)
  operands_three vs at n next (Q.letting v) = two_three _ _ _ (h vs n next) (h (v ∷ vs))
  operands_three vs at n next (Q.for v) = two_three _ _ _ (h vs n next) (h (v ∷ vs))
  operands_three vs at n next Q.choice = three_three _ _ _ _ (h vs n next) (h vs) (h vs)
  operands_three vs at n next (Q.function f) = two_three _ _ _ (h vs n next) (h vs)
  operands_three vs at n next Q.counting = one_three _ _ (h vs n next)
  operands_three vs at n next Q.values = one_three _ _ (h vs n next)
  operands_three vs at n next (Q.step x t) = one_three _ _ (h vs n next)

record_three : (bs : List ℕ) (at : ℕ) → Only ThreeNumbers (record_at bs at)
unfolding record_at
record_three bs at = only_refusing (record_of bs at (word bs at 2)) 1 at (omega arith, omega arith)

read_three : (d : ℕ) (bs vs : List ℕ) (n at : ℕ) → Only ThreeNumbers (read d bs vs n at)
unfolding read
read_three zero bs vs n at =
    only_reading (record_at bs at) (record_three bs at) (λ r. only_refuses (omega arith, omega arith))
read_three (suc d) bs vs n at =
    only_reading (record_at bs at) (record_three bs at)
    (λ r. only_unless (ltb n 128) 2 at (omega arith, omega arith)
    (operands_three (read d bs) (read_three d bs) vs at (suc n) r.1 r.0))

pub query_three : (query : List ℕ) (n p : ℕ) → query_read query ≡ refuses n p → (1 ≤ n) × (n ≤ 3)
unfolding query_read
query_three query =
    (only_reading (read 32 query [] 0 0) (read_three 32 query [] 0 0)
    (λ r. only_unless (eqb r.next (length query)) 1 r.next (omega arith, omega arith) only_reads)).only
