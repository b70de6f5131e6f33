-- The query check's steps follow the definition: `walk` is `read` without the tree, under flags for the variables.
--     flags_none      no variable is bound
--     flags_set       one more variable is bound
--     walk_read       `walk` under the flags of vs is `read` under vs, without the tree
--     call_stopped, call_whole, call_extra    the answer of the query check, from its walk
--     walk_unsound, walk_deep, walk_many, walk_sound    what `walk` does at a record
--     walk_refused    a walk that is refused
--     walk_stopped, walk_passed    what follows a walk that stopped, or passed
use Rattle.std.specs.Prelude.{Option, Some, None, Result, Ok, Err}
use Prim.Native.Nat.{ℕ, zero, suc, ◌+◌, ◌-◌, ◌≤◌, ◌<◌}
use mathlib.Core.Path.{◌≡◌, refl, sym, ◌∙◌, ap}
use mathlib.Core.Bool.{Bool, true, false, cond, ◌||◌}
use mathlib.Core.List.{List, [], ◌∷◌}
use native.Mathlib.Omega.{arith}
use native.Mathlib.Numerals.{add-one}
use native.Mathlib.Decide.{ℕ_discrete}
use borrow.Author.Tests.{eq-eqb, ne_eqb, lt-ltb, le-ltb}
use lib.Dec.{ltb, eqb}
use lib.ListN.{length, get_or, set, replicate, length-set, get_or-replicate}
use lib.Seq.{get_or-set_same, get_or-set_other}
use Rattle.cells.specs.Bytes.{word}
use Rattle.codes.specs.Refusals.{number_of, refusal}
use Rattle.codes.specs.declared.refusals.Reason.{Reason}
use Rattle.codes.specs.declared.refusals.Refusal.{Refusal}
use Rattle.laws.specs.Lists.{any}
use Rattle.laws.specs.Attempt.{gives, Reading, refuses, reads, reading, unless, refusing}
use Rattle.meaning.specs.Query as Query
use Rattle.meaning.specs.Query.{Query, Read, Record, Operand, bound, leaf, one, operands, read, record_at, record_of}
use Rattle.meaning.specs.Query.{query_read}
use Rattle.meaning.specs.Calls.{Answer, refused, query_answer, query_call}
use Rattle.query_records.specs.declared.Decoded.{Decoded}
use Rattle.query_records.specs.declared.Operands.{Operands}
use Rattle.queries.specs.declared.Passed.{Passed}
use Rattle.query_records.specs.Decoded as Code
use Rattle.query_records.specs.Decoded.{reading_of, operands_of}
use Rattle.queries.specs.Answers.{answered, walked}
use Rattle.queries.specs.Walk.{Passing, Walker, passes, two, three, steps, walk, Flags}
use Rattle.query_records.proofs.Outcomes.{refusing_apart}
use Rattle.query_records.proofs.Fields.{record_sound}
use Rattle.query_records.specs.Fields.{Ranged}

-- Readings

module _ {A B : Type 0} where
  -- the rest may lean on what was read
  reading_same :
      (a : Reading A) (f g : A → Reading B) → ((x : A) → a ≡ reads x → f x ≡ g x) → reading a f ≡ reading a g
  unfolding reading
  reading_same (refuses n p) f g h = refl
  reading_same (reads x) f g h = h x refl

  reading_both :
      (a b : Reading A) (f g : A → Reading B) → a ≡ b → ((x : A) → f x ≡ g x) → reading a f ≡ reading b g
  reading_both a b f g e h = rw e (reading_same b f g (λ x p. h x))

passes_reading :
    {A : Type 0} (a : Reading A) (f : A → Reading Read) → passes (reading a f) ≡ reading a (λ x. passes (f x))
unfolding passes reading
passes_reading (refuses n p) f = refl
passes_reading (reads x) f = refl

passes_one : (f : Query → Query) (a : Reading Read) → passes (one f a) ≡ passes a
unfolding passes one leaf reading
passes_one f (refuses n p) = refl
passes_one f (reads x) = refl

-- what follows an operand needs its offset and the records so far, not its tree
passes_then :
    (a : Reading Read) (f : Read → Reading Read) (g : ℕ × ℕ → Passing) →
    ((x : Read) → passes (f x) ≡ g (x.next, x.records)) → passes (reading a f) ≡ reading (passes a) g
unfolding passes reading
passes_then (refuses n p) f g h = refl
passes_then (reads x) f g h = h x

record_at_gives :
    (bs : List ℕ) (at : ℕ) (x : Record × ℕ) → record_at bs at ≡ reads x → record_of bs at (word bs at 2) ≡ gives x
unfolding record_at
record_at_gives bs at x e = refusing_apart 1 at (record_of bs at (word bs at 2)) x e

-- Flags

pub flags_none : Flags (replicate 8 false) []
unfolding bound any
flags_none = record { eight = refl; flag = λ v h. get_or-replicate 8 v false false h }

-- the flag of one variable after another is set
or_set :
    (v u : ℕ) (fs : List Bool) (b : Bool) → u < length fs → get_or fs v false ≡ b →
    get_or (set fs u true) v false ≡ eqb v u || b
or_set v u fs b h e = go (ℕ_discrete v u)
  where
    go : Dec (v ≡ u) → get_or (set fs u true) v false ≡ eqb v u || b
    go (yes p) = rw (p, eq-eqb u u refl) (get_or-set_same fs u true false h)
    go (no p) = rw (ne_eqb v u p, get_or-set_other fs u v true false p) e

pub flags_set : (fs : List Bool) (vs : List ℕ) (v : ℕ) → v < 8 → Flags fs vs → Flags (set fs v true) (v ∷ vs)
unfolding bound any
flags_set fs vs v h g =
    record {
      eight = length-set fs v true ∙ g.eight;
      flag = λ u l. or_set u v fs (bound u vs) (omega (arith, g.eight)) (g.flag u l);
    }

-- Operands

-- wd walks over what rd reads
abbrev Walks : Operand → Walker → Type 0
Walks rd wd = (fs : List Bool) (vs : List ℕ) (n at : ℕ) → Flags fs vs → wd fs n at ≡ passes (rd vs n at)

module _ (rd : Operand) (wd : Walker) (ih : Walks rd wd) where
  one_walks :
      (f : Query → Query) (fs : List Bool) (vs : List ℕ) (n at : ℕ) → Flags fs vs →
      wd fs n at ≡ passes (one f (rd vs n at))
  one_walks f fs vs n at g = ih fs vs n at g ∙ sym (passes_one f (rd vs n at))

  two_walks :
      (f : Query → Query → Query) (fs gs : List Bool) (vs us : List ℕ) (n at : ℕ) → Flags fs vs → Flags gs us →
      two wd fs gs n at ≡ passes (Query.two f (rd vs n at) (rd us))
  unfolding two Query.two
  two_walks f fs gs vs us n at g h =
      reading_both (wd fs n at) (passes (rd vs n at)) _ _ (ih fs vs n at g) (λ x. ih gs us x.1 x.0 h)
      ∙ sym (passes_then (rd vs n at) _ _ (λ x. passes_one (f x.tree) (rd us x.records x.next)))

  three_walks :
      (f : Query → Query → Query → Query) (fs : List Bool) (vs : List ℕ) (n at : ℕ) → Flags fs vs →
      three wd fs n at ≡ passes (Query.three f (rd vs n at) (rd vs) (rd vs))
  unfolding three Query.three
  three_walks f fs vs n at g =
      reading_both (wd fs n at) (passes (rd vs n at))
      (λ x. two wd fs fs x.1 x.0) (λ x. two wd fs fs x.1 x.0)
      (ih fs vs n at g) (λ x. refl)
      ∙ sym
      (passes_then (rd vs n at) _ (λ x. two wd fs fs x.1 x.0)
      (λ x. sym (two_walks (f x.tree) fs fs vs vs x.records x.next g g)))

  operands_walk :
      (k : Record) (fs : List Bool) (vs : List ℕ) (at n next : ℕ) → Ranged k → Flags fs vs →
      steps wd fs at n next (operands_of k) ≡ passes (operands rd vs at n next k)
  unfolding Ranged operands_of steps operands leaf passes reading unless
  operands_walk (Query.literal z) fs vs at n next h g = refl
  operands_walk Query.empty fs vs at n next h g = refl
  operands_walk (Query.root k) fs vs at n next h g = refl
  operands_walk (Query.variable v) fs vs at n next h g = rw (g.flag v h) (go (bound v vs))
    where
      go :
          (t : Bool) →
          unless {A = ℕ × ℕ} t 3 at (reads (next, n)) ≡ passes (unless t 3 at (leaf (Query.QV at v) next n))
      go true = refl
      go false = refl
  operands_walk Query.sequence fs vs at n next h g = two_walks (Query.QS at) fs fs vs vs n next g g
  operands_walk (Query.letting v) fs vs at n next h g =
      two_walks (Query.QT at v) fs (set fs v true) vs (v ∷ vs) n next g (flags_set fs vs v h g)
  operands_walk (Query.for v) fs vs at n next h g =
      two_walks (Query.QF at v) fs (set fs v true) vs (v ∷ vs) n next g (flags_set fs vs v h g)
  operands_walk Query.choice fs vs at n next h g = three_walks (Query.QI at) fs vs n next g
  operands_walk (Query.function f) fs vs at n next h g = two_walks (Query.QO at f) fs fs vs vs n next g g
  operands_walk Query.counting fs vs at n next h g = one_walks (Query.QC at) fs vs n next g
  operands_walk Query.values fs vs at n next h g = one_walks (Query.QD at) fs vs n next g
  operands_walk (Query.step x t) fs vs at n next h g = one_walks (Query.QX at x t) fs vs n next g

-- The query at an offset

passes_unless :
    (t : Bool) (k p : ℕ) (a : Passing) (b : Reading Read) → a ≡ passes b → unless t k p a ≡ passes (unless t k p b)
unfolding unless passes reading
passes_unless true k p a b e = e
passes_unless false k p a b e = refl

record_walk :
    (d : ℕ) (bs : List ℕ) → Walks (read d bs) (walk d bs) → Walks (read (suc d) bs) (walk (suc d) bs)
unfolding read walk
record_walk d bs ih fs vs n at g =
    reading_same (record_at bs at) _ _
    (λ x e.
    let s = record_sound bs at (word bs at 2) x (record_at_gives bs at x e) in
    passes_unless (ltb n 128) 2 at _ _
    (operands_walk (read d bs) (walk d bs) ih x.0 fs vs at (suc n) x.1 s.ranged g))
    ∙ sym (passes_reading (record_at bs at) _)

pub walk_read : (d : ℕ) (bs : List ℕ) → Walks (read d bs) (walk d bs)
unfolding read walk passes reading
walk_read zero bs fs vs n at g = sym (passes_reading (record_at bs at) (λ r. refuses 2 at))
walk_read (suc d) bs fs vs n at g = record_walk d bs (walk_read d bs) fs vs n at g

-- The steps of the code

module _ (bs : List ℕ) (at : ℕ) (r : Option Decoded) (e : reading_of r ≡ record_of bs at (word bs at 2)) where
  at_fails : r ≡ None → record_at bs at ≡ refuses 1 at
  unfolding record_at refusing reading_of
  at_fails h = rw (sym e ∙ ap reading_of h)

  at_reads : (f : Decoded) → r ≡ Some f → record_at bs at ≡ reads (Code.record_of f.kind, f.next)
  unfolding record_at refusing reading_of
  at_reads f h = rw (sym e ∙ ap reading_of h)

  module _ (d : ℕ) (fs : List Bool) (n : ℕ) where
    pub walk_unsound : r ≡ None → refuses 1 at ≡ walk d bs fs n at
    unfolding walk reading
    walk_unsound h = go d
      where
        go : (d : ℕ) → refuses 1 at ≡ walk d bs fs n at
        go zero = rw (at_fails h)
        go (suc d) = rw (at_fails h)

    module _ (f : Decoded) (h : r ≡ Some f) where
      pub walk_deep : d ≡ 0 → refuses 2 at ≡ walk d bs fs n at
      unfolding walk reading
      walk_deep z = rw (z, at_reads f h)

      pub walk_many : 128 ≤ n → refuses 2 at ≡ walk d bs fs n at
      unfolding walk reading unless
      walk_many l = go d
        where
          go : (d : ℕ) → refuses 2 at ≡ walk d bs fs n at
          go zero = rw (at_reads f h)
          go (suc d) = rw (at_reads f h, le-ltb n 128 l)

      pub walk_sound :
          (o p : Operands) → (d ≡ 0 → ⊥) → n < 128 → o ≡ operands_of (Code.record_of f.kind) → o ≡ p →
          steps (walk (d - 1) bs) fs at (n + 1) f.next p ≡ walk d bs fs n at
      unfolding walk reading unless
      walk_sound o p z l q s = go d z
        where
          go : (d : ℕ) → (d ≡ 0 → ⊥) → steps (walk (d - 1) bs) fs at (n + 1) f.next p ≡ walk d bs fs n at
          go zero z = absurd (z refl)
          go (suc d) z =
              let k : suc d - 1 ≡ d = omega arith in
              rw (k, add-one n, at_reads f h, lt-ltb n 128 l, ← q, s)

-- What follows a walk

pub walk_refused : (r : Refusal) (k : Reason) (p : ℕ) → r ≡ refusal k p → walked (Err r) ≡ refuses (number_of k) p
unfolding walked
walk_refused r k p e = ap (λ (r : Refusal). refuses (number_of r.reason) r.place) e

module _ (w : Result Passed Refusal) (a : Passing) (f : ℕ × ℕ → Passing) (e : walked w ≡ a) where
  pub walk_stopped : (r : Refusal) → w ≡ Err r → walked (Err r) ≡ reading a f
  unfolding walked reading
  walk_stopped r h = ap (λ (x : Passing). reading x f) (sym (ap walked h) ∙ e)

  pub walk_passed : (p : Passed) → w ≡ Ok p → f (p.next, p.records) ≡ reading a f
  unfolding walked reading
  walk_passed p h = ap (λ (x : Passing). reading x f) (sym (ap walked h) ∙ e)

-- The whole query

-- the answer, from the offset after the query and the number of bytes
unfoldable ended : ℕ → Passing → Answer
ended l (refuses k p) = refused k p
ended l (reads x) = cond (eqb x.0 l) (Answer.gives (x.1 ∷ [])) (refused 1 x.0)

read_ended :
    (l : ℕ) (a : Reading Read) →
    query_answer (reading a (λ r. unless (eqb r.next l) 1 r.next (reads r))) ≡ ended l (passes a)
unfolding query_answer reading passes ended unless
read_ended l (refuses k p) = refl
read_ended l (reads r) = go (eqb r.next l)
  where
    go :
        (t : Bool) →
        query_answer (unless t 1 r.next (reads r)) ≡ cond t (Answer.gives (r.records ∷ [])) (refused 1 r.next)
    go true = refl
    go false = refl

module _ (bs : List ℕ) (w : Result Passed Refusal) (e : walked w ≡ walk 32 bs (replicate 8 false) 0 0) where
  call_ended : query_call bs ≡ ended (length bs) (walked w)
  unfolding query_call query_read
  call_ended =
      read_ended (length bs) (read 32 bs [] 0 0)
      ∙ ap (ended (length bs)) (sym (walk_read 32 bs (replicate 8 false) [] 0 0 flags_none) ∙ sym e)

  pub call_stopped : (r : Refusal) → w ≡ Err r → answered (Err r) ≡ query_call bs
  unfolding walked answered ended
  call_stopped r h = rw (call_ended, h)

  module _ (p : Passed) (h : w ≡ Ok p) where
    pub call_whole : p.next ≡ length bs → answered (Ok p.records) ≡ query_call bs
    unfolding walked answered ended
    call_whole z = rw (call_ended, h, z, eq-eqb (length bs) (length bs) refl)

    pub call_extra :
        (r : Refusal) → r ≡ refusal Reason.Record p.next → (p.next ≡ length bs → ⊥) → answered (Err r) ≡ query_call bs
    unfolding walked answered ended
    call_extra r k z = rw (call_ended, h, k, ne_eqb p.next (length bs) z)
