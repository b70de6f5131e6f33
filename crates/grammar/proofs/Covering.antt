-- The bytes of a read query are the records of its tree, one after another.
--     read_covers         the records of what `read` reads stand from its offset on
--     query_bytes_lem         the bytes of an accepted query are those of its records, their fields in range
use Prim.Native.Nat.{ℕ, zero, suc}
use mathlib.Core.Path.{◌≡◌, refl, sym, ap, ◌∙◌}
use mathlib.Core.List.{List, [], ◌++◌, append_assoc, append-nil}
use borrow.Author.Tests.{eqb-true}
use lib.Dec.{ltb, eqb}
use lib.ListN.{length, drop}
use lib.Seq.{drop-length}
use Rattle.cells.specs.Bytes.{Bytes}
use Rattle.laws.specs.Attempt.{Reading, reads, Found}
use Rattle.laws.proofs.Outcomes.{found_refuses, found_reads, found_unless, found_refusing, found_reading}
use Rattle.meaning.specs.Query.{Query, QL, QE, QR, QV, QS, QT, QF, QI, QO, QC, QD, QX, Record, literal, empty, root}
use Rattle.meaning.specs.Query.{variable, sequence, letting, for, choice, function, counting, values, step}
use Rattle.meaning.specs.Query.{record_at, Read, Operand, bound, leaf, one, two, three, operands, read, query_read}
use Rattle.grammar.specs.Encoded.{record_bytes, query_bytes, Within, Ranged, Covers, Encodes}
use Rattle.grammar.proofs.Encoding.{record_stands}

module _ (bs : List ℕ) where
  -- the record and its first operand, one after the other
  joined :
      (r xs rest : List ℕ) (at next : ℕ) → drop at bs ≡ r ++ drop next bs → drop next bs ≡ xs ++ rest →
      drop at bs ≡ (r ++ xs) ++ rest
  joined r xs rest at next e d =
      e ∙ ap (λ (s : List ℕ). r ++ s) d ∙ sym (append_assoc r xs rest)

  leaf_covers :
      (q : Query) (at next n : ℕ) → drop at bs ≡ query_bytes q ++ drop next bs → Ranged q →
      Found (Covers bs at) (leaf q next n)
  unfolding leaf
  leaf_covers q at next n e w = found_reads (record { bytes = e; ranged = w })

  -- one operand: what stands before it is r
  one_covers :
      (r : List ℕ) (at next : ℕ) (f : Query → Query) (a : Reading Read) → drop at bs ≡ r ++ drop next bs →
      ((q : Query) → query_bytes (f q) ≡ r ++ query_bytes q) → ((q : Query) → Ranged q → Ranged (f q)) →
      Found (Covers bs next) a → Found (Covers bs at) (one f a)
  unfolding one leaf
  one_covers r at next f a e k w h =
      found_reading h
      (λ x c.
      found_reads (record {
        bytes =
            joined r (query_bytes x.tree) (drop x.next bs) at next e c.bytes
            ∙ ap (λ (s : List ℕ). s ++ drop x.next bs) (sym (k x.tree));
        ranged = w x.tree c.ranged;
      }))

  two_covers :
      (r : List ℕ) (at next : ℕ) (f : Query → Query → Query) (a : Reading Read) (b : ℕ → ℕ → Reading Read) →
      drop at bs ≡ r ++ drop next bs →
      ((p q : Query) → query_bytes (f p q) ≡ r ++ (query_bytes p ++ query_bytes q)) →
      ((p q : Query) → Ranged p → Ranged q → Ranged (f p q)) → Found (Covers bs next) a →
      ((n k : ℕ) → Found (Covers bs k) (b n k)) → Found (Covers bs at) (two f a b)
  unfolding two
  two_covers r at next f a b e k w h g =
      found_reading h
      (λ x c.
      one_covers (r ++ query_bytes x.tree) at x.next (f x.tree) (b x.records x.next)
      (joined r (query_bytes x.tree) (drop x.next bs) at next e c.bytes)
      (λ q. k x.tree q ∙ sym (append_assoc r (query_bytes x.tree) (query_bytes q)))
      (λ q v. w x.tree q c.ranged v) (g x.records x.next))

  three_covers :
      (r : List ℕ) (at next : ℕ) (f : Query → Query → Query → Query) (c : Reading Read) (a b : ℕ → ℕ → Reading Read) →
      drop at bs ≡ r ++ drop next bs →
      ((o p q : Query) → query_bytes (f o p q) ≡ r ++ (query_bytes o ++ (query_bytes p ++ query_bytes q))) →
      ((o p q : Query) → Ranged o → Ranged p → Ranged q → Ranged (f o p q)) → Found (Covers bs next) c →
      ((n k : ℕ) → Found (Covers bs k) (a n k)) → ((n k : ℕ) → Found (Covers bs k) (b n k)) →
      Found (Covers bs at) (three f c a b)
  unfolding three
  three_covers r at next f c a b e k w h g i =
      found_reading h
      (λ x d.
      two_covers (r ++ query_bytes x.tree) at x.next (f x.tree) (a x.records x.next) b
      (joined r (query_bytes x.tree) (drop x.next bs) at next e d.bytes)
      (λ p q. k x.tree p q ∙ sym (append_assoc r (query_bytes x.tree) (query_bytes p ++ query_bytes q)))
      (λ p q u v. w x.tree p q d.ranged u v) (g x.records x.next) i)

  module _ (rd : Operand) (ih : (vs : List ℕ) (n at : ℕ) → Found (Covers bs at) (rd vs n at)) where
    operands_cover :
        (k : Record) (vs : List ℕ) (at n next : ℕ) → drop at bs ≡ record_bytes k ++ drop next bs → Within k →
        Found (Covers bs at) (operands rd vs at n next k)
    unfolding operands record_bytes query_bytes
    operands_cover (literal z) vs at n next e w = leaf_covers (QL at z) at next n e w
    operands_cover empty vs at n next e w = leaf_covers (QE at) at next n e w
    operands_cover (root k) vs at n next e w = leaf_covers (QR at k) at next n e w
    operands_cover (variable v) vs at n next e w =
        found_unless (bound v vs) 3 at (λ t. leaf_covers (QV at v) at next n e w)
    operands_cover sequence vs at n next e w =
        two_covers (record_bytes sequence) at next (QS at) _ (rd vs) e (λ p q. refl) (λ p q u v. (u, v))
        (ih vs n next) (ih vs)
    operands_cover (letting v) vs at n next e w =
        two_covers (record_bytes (letting v)) at next (QT at v) _ (rd _) e (λ p q. refl) (λ p q u v. (w, u, v))
        (ih vs n next) (ih _)
    operands_cover (for v) vs at n next e w =
        two_covers (record_bytes (for v)) at next (QF at v) _ (rd _) e (λ p q. refl) (λ p q u v. (w, u, v))
        (ih vs n next) (ih _)
    operands_cover choice vs at n next e w =
        three_covers (record_bytes choice) at next (QI at) _ (rd vs) (rd vs) e (λ o p q. refl) (λ o p q t u v. (t, u, v))
        (ih vs n next) (ih vs) (ih vs)
    operands_cover (function f) vs at n next e w =
        two_covers (record_bytes (function f)) at next (QO at f) _ (rd vs) e (λ p q. refl) (λ p q u v. (u, v))
        (ih vs n next) (ih vs)
    operands_cover counting vs at n next e w =
        one_covers (record_bytes counting) at next (QC at) _ e (λ q. refl) (λ q u. u) (ih vs n next)
    operands_cover values vs at n next e w =
        one_covers (record_bytes values) at next (QD at) _ e (λ q. refl) (λ q u. u) (ih vs n next)
    operands_cover (step x t) vs at n next e w =
        one_covers (record_bytes (step x t)) at next (QX at x t) _ e (λ q. refl) (λ q u. (w, u)) (ih vs n next)

pub read_covers :
    (bs : List ℕ) → Bytes bs → (d : ℕ) (vs : List ℕ) (n at : ℕ) → Found (Covers bs at) (read d bs vs n at)
unfolding read record_at
read_covers bs h zero vs n at = found_reading (found_refusing 1 at (record_stands bs h at)) (λ r k. found_refuses)
read_covers bs h (suc d) vs n at =
    found_reading (found_refusing 1 at (record_stands bs h at))
    (λ r k.
    found_unless (ltb n 128) 2 at
    (λ t.
    operands_cover bs (read d bs) (read_covers bs h d) r.0 vs at (suc n) r.1 k.bytes k.within))

query_covers : (bs : List ℕ) → Bytes bs → Found (λ r. Encodes bs r.tree) (query_read bs)
unfolding query_read
query_covers bs h =
    found_reading (read_covers bs h 32 [] 0 0)
    (λ r c.
    found_unless (eqb r.next (length bs)) 1 r.next
    (λ t.
    found_reads (record {
      bytes =
          c.bytes
          ∙ ap (λ (k : ℕ). query_bytes r.tree ++ drop k bs) (eqb-true r.next (length bs) t)
          ∙ ap (λ (s : List ℕ). query_bytes r.tree ++ s) (drop-length bs)
          ∙ append-nil (query_bytes r.tree);
      ranged = c.ranged;
    })))

pub query_bytes_lem : (bs : List ℕ) (r : Read) → Bytes bs → query_read bs ≡ reads r → Encodes bs r.tree
query_bytes_lem bs r h e = (query_covers bs h).found r e
