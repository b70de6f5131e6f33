-- What the query check accepts, `parse` gives: evaluator and translator read by `parse` alone.
--     read_parses        what `read` reads, `parse` gives at the same depth
--     query_accepted     an accepted query: the tree of all bytes at depth 32, closed, of at most 128 records
use Prim.Native.Nat.{ℕ, zero, suc}
use mathlib.Core.Path.{◌≡◌, refl, subst}
use mathlib.Core.List.{List, []}
use borrow.Author.Tests.{eqb-true}
use lib.Dec.{ltb, eqb}
use lib.ListN.{length}
use Rattle.cells.specs.Bytes.{word}
use Rattle.laws.specs.Attempt.{Attempt, gives, attempt, Reading, reads, Given, Found}
use Rattle.meaning.specs.Query.{Query, QS, QT, QF, QI, QO, QC, QD, QX, Record, literal, empty, root}
use Rattle.meaning.specs.Query.{variable, sequence, letting, for, choice, function, counting, values, step, record_of}
use Rattle.meaning.specs.Query.{record_at, Read, Operand, bound, leaf, one, two, three, operands, read, query_read}
use Rattle.laws.proofs.Outcomes.{found_refuses, found_reads, found_unless, found_refusing}
use Rattle.laws.proofs.Outcomes.{found_reading}
use Rattle.theorems.proofs.Closed.{accepted}
use Rattle.query_walks.specs.Parse.{Parsed, lone, pair, triple, trees, parse}
use Rattle.query_walks.specs.Statements.{Parses, AcceptedBytes}

-- One, two and three operands

one_parses :
    (f : Query → Query) (a : Reading Read) (p : Parsed) → Found (Parses p) a → Found (Parses (lone f p)) (one f a)
unfolding one leaf lone attempt
one_parses f a p h = found_reading h (λ x e. found_reads (rw e))

two_parses :
    (f : Query → Query → Query) (a : Reading Read) (b : ℕ → ℕ → Reading Read) (p : Parsed) (pd : ℕ → Parsed) →
    Found (Parses p) a → ((n at : ℕ) → Found (Parses (pd at)) (b n at)) → Found (Parses (pair f p pd)) (two f a b)
unfolding two pair attempt
two_parses f a b p pd h k =
    found_reading h
    (λ x e. rw e (one_parses (f x.tree) (b x.records x.next) (pd x.next) (k x.records x.next)))

three_parses :
    (f : Query → Query → Query → Query) (c : Reading Read) (a b : ℕ → ℕ → Reading Read) (p : Parsed) (pd : ℕ → Parsed) →
    Found (Parses p) c →
    ((n at : ℕ) → Found (Parses (pd at)) (a n at)) → ((n at : ℕ) → Found (Parses (pd at)) (b n at)) →
    Found (Parses (triple f p pd pd)) (three f c a b)
unfolding three triple attempt
three_parses f c a b p pd h k l =
    found_reading h
    (λ x e.
    rw e (two_parses (f x.tree) (a x.records x.next) b (pd x.next) pd (k x.records x.next) l))

-- The operands of a record

module _ (rd : Operand) (pd : ℕ → Parsed) (ih : (vs : List ℕ) (n at : ℕ) → Found (Parses (pd at)) (rd vs n at)) where
  operands_parse :
      (k : Record) (vs : List ℕ) (at n next : ℕ) → Found (Parses (trees pd at next k)) (operands rd vs at n next k)
  unfolding operands trees leaf
  operands_parse (literal z) vs at n next = found_reads refl
  operands_parse empty vs at n next = found_reads refl
  operands_parse (root k) vs at n next = found_reads refl
  operands_parse (variable v) vs at n next = found_unless (bound v vs) 3 at (λ t. found_reads refl)
  operands_parse sequence vs at n next = two_parses (QS at) _ _ _ pd (ih vs n next) (ih vs)
  operands_parse (letting v) vs at n next = two_parses (QT at v) _ _ _ pd (ih vs n next) (ih _)
  operands_parse (for v) vs at n next = two_parses (QF at v) _ _ _ pd (ih vs n next) (ih _)
  operands_parse choice vs at n next = three_parses (QI at) _ _ _ _ pd (ih vs n next) (ih vs) (ih vs)
  operands_parse (function f) vs at n next = two_parses (QO at f) _ _ _ pd (ih vs n next) (ih vs)
  operands_parse counting vs at n next = one_parses (QC at) _ _ (ih vs n next)
  operands_parse values vs at n next = one_parses (QD at) _ _ (ih vs n next)
  operands_parse (step x t) vs at n next = one_parses (QX at x t) _ _ (ih vs n next)

-- what is given is what was given
given_itself : {A : Type 0} (a : Attempt A) → Given (λ x. a ≡ gives x) a
given_itself a = record { given = λ x e. e }

read_found : (d : ℕ) (bs vs : List ℕ) (n at : ℕ) → Found (Parses (parse d bs at)) (read d bs vs n at)
unfolding read parse record_at attempt
read_found zero bs vs n at =
    found_reading (found_refusing 1 at (given_itself (record_of bs at (word bs at 2)))) (λ x e. found_refuses)
read_found (suc d) bs vs n at =
    found_reading (found_refusing 1 at (given_itself (record_of bs at (word bs at 2))))
    (λ x e.
    found_unless (ltb n 128) 2 at
    (λ t. rw e (operands_parse (read d bs) (parse d bs) (read_found d bs) x.0 vs at (suc n) x.1)))

pub read_parses :
    (d : ℕ) (bs vs : List ℕ) (n at : ℕ) (r : Read) →
    read d bs vs n at ≡ reads r → parse d bs at ≡ gives (r.tree, r.next)
read_parses d bs vs n at r e = (read_found d bs vs n at).found r e

query_found : (bs : List ℕ) → Found (λ r. parse 32 bs 0 ≡ gives (r.tree, length bs)) (query_read bs)
unfolding query_read
query_found bs =
    found_reading (read_found 32 bs [] 0 0)
    (λ x e.
    found_unless (eqb x.next (length bs)) 1 x.next
    (λ t. found_reads (subst (λ (l : ℕ). parse 32 bs 0 ≡ gives (x.tree, l)) (eqb-true x.next (length bs) t) e)))

pub query_accepted : (bs : List ℕ) (r : Read) → query_read bs ≡ reads r → AcceptedBytes bs r
query_accepted bs r e =
    let a = accepted bs r e in
    record { parses = (query_found bs).found r e; closed = a.closed; counted = a.counted; few = a.few }
