-- The query check answers alike on bytes that are alike up to 1,024: it reads 128 records of six bytes at most and
-- begins one more, so it looks at no byte past 774.
--     byte_alike, word_alike     what stands below 1,024
--     record_alike               the record at an offset
--     agree_reading              what comes next, on readings that agree
--     agree_operands             a record and its operands
--     agree_read                 the query at an offset
--     refused_alike              the whole of the bytes
use Prim.Native.Nat.{ℕ, zero, suc, ◌+◌, ◌*◌, ◌≤◌, ◌<◌}
use mathlib.Core.Path.{◌≡◌, refl, sym, ◌∙◌, ap, ap₂, subst}
use mathlib.Core.List.{List, [], ◌∷◌}
use mathlib.Core.Bool.{Bool, true, false}
use native.Mathlib.Omega.{arith}
use borrow.Author.Tests.{le-leb, ltb-true, ne_eqb}
use lib.Dec.{ltb, eqb}
use lib.ListN.{length, get_or}
use lib.Seq.{get_or-take}
use Rattle.cells.specs.Bytes.{byte_at, word, int4, fits}
use Rattle.codes.specs.Limits.{most_records, most_levels}
use Rattle.laws.specs.Attempt.{Attempt, Reading, refuses, reads, reading, refusing, unless}
use Rattle.laws.specs.Attempt.{Given, Found}
use Rattle.laws.proofs.Outcomes.{given_fails, given_gives, given_cond, given_provided, given_any}
use Rattle.laws.proofs.Outcomes.{found_refuses, found_reads, found_refusing}
use Rattle.meaning.specs.Query.{Query, Record, Read, Operand, sized, record_of, record_at, bound, leaf, one, two, three}
use Rattle.meaning.specs.Query.{literal, empty, root, variable, sequence, letting, for, choice, function, counting}
use Rattle.meaning.specs.Query.{values, step, operands, read, query_read}
use Rattle.meaning.specs.Query.{mark_ql, mark_qb, mark_qe, mark_qr, mark_qv, mark_qs, mark_qt, mark_qf, mark_qi, mark_qo}
use Rattle.meaning.specs.Query.{mark_qc, mark_qd, mark_qx}
use Rattle.meaning.specs.Query.{QS, QT, QF, QI, QO, QC, QD, QX}
use Rattle.recording.specs.Recorded.{most_bytes}
use Rattle.recording.specs.Agreeing.{Alike, Begun, Near, Agree, Refused}

-- One record

-- where it ends
abbrev Short : ℕ → Record × ℕ → Type 0
Short at x = x.1 ≤ at + 6

sized_short :
    (bs : List ℕ) (at n : ℕ) (r : Attempt Record) → n ≤ 6 → Given (Short at) (sized bs at n r)
unfolding sized
sized_short bs at n r h = given_provided (fits bs at n) (λ t. given_any r (λ x. given_gives (omega arith)))

pub record_short : (bs : List ℕ) (at mark : ℕ) → Given (Short at) (record_of bs at mark)
unfolding record_of
record_short bs at mark =
    given_cond (eqb mark mark_ql) (sized_short bs at 6 _ (omega arith))
    (given_cond (eqb mark mark_qb) (sized_short bs at 3 _ (omega arith))
    (given_cond (eqb mark mark_qe) (sized_short bs at 2 _ (omega arith))
    (given_cond (eqb mark mark_qr) (sized_short bs at 3 _ (omega arith))
    (given_cond (eqb mark mark_qv) (sized_short bs at 3 _ (omega arith))
    (given_cond (eqb mark mark_qs) (sized_short bs at 2 _ (omega arith))
    (given_cond (eqb mark mark_qt) (sized_short bs at 3 _ (omega arith))
    (given_cond (eqb mark mark_qf) (sized_short bs at 3 _ (omega arith))
    (given_cond (eqb mark mark_qi) (sized_short bs at 2 _ (omega arith))
    (given_cond (eqb mark mark_qo) (sized_short bs at 3 _ (omega arith))
    (given_cond (eqb mark mark_qc) (sized_short bs at 2 _ (omega arith))
    (given_cond (eqb mark mark_qd) (sized_short bs at 2 _ (omega arith))
    (given_cond (eqb mark mark_qx) (sized_short bs at 6 _ (omega arith)) given_fails))))))))))))

module _ {bs cs : List ℕ} (alike : Alike bs cs) where
  pub byte_alike : (i : ℕ) → i < most_bytes → byte_at bs i ≡ byte_at cs i
  byte_alike i h =
      sym (get_or-take most_bytes bs i 0 h)
      ∙ ap (λ (l : List ℕ). get_or l i 0) alike.front
      ∙ get_or-take most_bytes cs i 0 h

  pub word_alike : (at n : ℕ) → at + n ≤ most_bytes → word bs at n ≡ word cs at n
  unfolding word
  word_alike at zero h = refl
  word_alike at (suc n) h =
      ap₂ (λ (u b : ℕ). u * 256 + b) (word_alike at n (omega arith)) (byte_alike (at + n) (omega arith))

  fits_alike : (at n : ℕ) → at + n ≤ most_bytes → fits bs at n ≡ fits cs at n
  unfolding fits
  fits_alike at n h =
      le-leb (at + n) (length bs) (omega (arith, alike.long))
      ∙ sym (le-leb (at + n) (length cs) (omega (arith, alike.other)))

  record_of_alike : (at mark : ℕ) → at + 6 ≤ most_bytes → record_of bs at mark ≡ record_of cs at mark
  unfolding record_of sized int4
  record_of_alike at mark h =
      simp (
        fits_alike at 2 (omega arith),
        fits_alike at 3 (omega arith),
        fits_alike at 6 (omega arith),
        byte_alike (at + 2) (omega arith),
        byte_alike (at + 3) (omega arith),
        word_alike (at + 2) 4 (omega arith),
        word_alike (at + 4) 2 (omega arith),
      )

  pub record_alike : (at : ℕ) → at + 6 ≤ most_bytes → Agree (Short at) (record_at bs at) (record_at cs at)
  unfolding record_at
  record_alike at h =
      record {
        same =
            ap (refusing 1 at)
            (record_of_alike at (word bs at 2) h ∙ ap (record_of cs at) (word_alike at 2 (omega arith)));
        found = found_refusing 1 at (record_short bs at (word bs at 2));
      }

-- Its operands

pub agree_refuses : {A : Type 0} {P : A → Type 0} (n p : ℕ) → Agree P (refuses n p) (refuses n p)
agree_refuses n p = record { same = refl; found = found_refuses }

pub agree_reads : {A : Type 0} {P : A → Type 0} {x : A} → P x → Agree P (reads x) (reads x)
agree_reads h = record { same = refl; found = found_reads h }

pub agree_unless :
    {A : Type 0} {P : A → Type 0} {a b : Reading A} (t : Bool) (n p : ℕ) → (t ≡ true → Agree P a b) →
    Agree P (unless t n p a) (unless t n p b)
unfolding unless
agree_unless true n p h = h refl
agree_unless false n p h = agree_refuses n p

pub agree_reading :
    {A B : Type 0} {P : A → Type 0} {Q : B → Type 0} {a b : Reading A} {f g : A → Reading B} → Agree P a b →
    ((x : A) → P x → Agree Q (f x) (g x)) → Agree Q (reading a f) (reading b g)
unfolding reading
agree_reading {A} {B} {P} {Q} {a} {b} {f} {g} h k =
    subst (λ (c : Reading A). Agree Q (reading a f) (reading c g)) h.same (go a h.found)
  where
    go : (c : Reading A) → Found P c → Agree Q (reading c f) (reading c g)
    go (refuses n p) e = agree_refuses n p
    go (reads x) e = k x (e.found x refl)

agree_one : {a b : Reading Read} (f : Query → Query) → Agree Near a b → Agree Near (one f a) (one f b)
unfolding one leaf
agree_one f h = agree_reading h (λ x n. agree_reads n)

-- how an operand is read, from where it begins
abbrev Reaching : Operand → Operand → Type 0
Reaching rd qd = (vs : List ℕ) (n at : ℕ) → Begun n at → Agree Near (rd vs n at) (qd vs n at)

abbrev Following : (ℕ → ℕ → Reading Read) → (ℕ → ℕ → Reading Read) → Type 0
Following c d = (n at : ℕ) → Begun n at → Agree Near (c n at) (d n at)

agree_two :
    {a b : Reading Read} {c d : ℕ → ℕ → Reading Read} (f : Query → Query → Query) → Agree Near a b → Following c d →
    Agree Near (two f a c) (two f b d)
unfolding two
agree_two f h k = agree_reading h (λ x n. agree_one (f x.tree) (k x.records x.next n))

agree_three :
    {a b : Reading Read} {c d e g : ℕ → ℕ → Reading Read} (f : Query → Query → Query → Query) → Agree Near a b →
    Following c d → Following e g → Agree Near (three f a c e) (three f b d g)
unfolding three
agree_three f h k l = agree_reading h (λ x n. agree_two (f x.tree) (k x.records x.next n) l)

pub agree_operands :
    (rd qd : Operand) → Reaching rd qd → (vs : List ℕ) (at n next : ℕ) (r : Record) → Begun n next →
    Agree Near (operands rd vs at n next r) (operands qd vs at n next r)
unfolding operands leaf
agree_operands rd qd k vs at n next (literal z) h = agree_reads h
agree_operands rd qd k vs at n next empty h = agree_reads h
agree_operands rd qd k vs at n next (root i) h = agree_reads h
agree_operands rd qd k vs at n next (variable v) h = agree_unless (bound v vs) 3 at (λ t. agree_reads h)
agree_operands rd qd k vs at n next sequence h = agree_two (QS at) (k vs n next h) (k vs)
agree_operands rd qd k vs at n next (letting v) h = agree_two (QT at v) (k vs n next h) (k (v ∷ vs))
agree_operands rd qd k vs at n next (for v) h = agree_two (QF at v) (k vs n next h) (k (v ∷ vs))
agree_operands rd qd k vs at n next choice h = agree_three (QI at) (k vs n next h) (k vs) (k vs)
agree_operands rd qd k vs at n next (function f) h = agree_two (QO at f) (k vs n next h) (k vs)
agree_operands rd qd k vs at n next counting h = agree_one (QC at) (k vs n next h)
agree_operands rd qd k vs at n next values h = agree_one (QD at) (k vs n next h)
agree_operands rd qd k vs at n next (step x t) h = agree_one (QX at x t) (k vs n next h)

-- The whole

module _ {bs cs : List ℕ} (alike : Alike bs cs) where
  pub agree_read : (d : ℕ) → Reaching (read d bs) (read d cs)
  unfolding read
  agree_read zero vs n at h = agree_reading (record_alike alike at (omega arith)) (λ x s. agree_refuses 2 at)
  agree_read (suc d) vs n at h =
      agree_reading (record_alike alike at (omega arith))
      (λ x s.
      agree_unless (ltb n most_records) 2 at
      (λ t.
      let l : n < most_records = ltb-true n most_records t in
      agree_operands (read d bs) (read d cs) (agree_read d) vs at (suc n) x.1 x.0
      (record { few = omega arith; near = omega arith })))

  pub refused_alike : Refused (query_read bs) (query_read cs)
  unfolding query_read reading unless
  refused_alike =
      let h : Agree Near (read most_levels bs [] 0 0) (read most_levels cs [] 0 0) =
      agree_read most_levels [] 0 0 (record { few = omega arith; near = omega arith }) in
      subst
      (λ (c : Reading Read).
      Refused (reading (read most_levels bs [] 0 0) (whole bs)) (reading c (whole cs)))
      h.same (go (read most_levels bs [] 0 0) h.found)
    where
      whole : List ℕ → Read → Reading Read
      whole xs r = unless (eqb r.next (length xs)) 1 r.next (reads r)

      go : (m : Reading Read) → Found Near m → Refused (reading m (whole bs)) (reading m (whole cs))
      go (refuses n p) e = record { number = n; place = p; here = refl; there = refl }
      go (reads r) e =
          let near : Near r = e.found r refl in
          record {
            number = 1;
            place = r.next;
            here = rw (ne_eqb r.next (length bs) (λ x. omega (arith, near.few, near.near, alike.long)));
            there = rw (ne_eqb r.next (length cs) (λ x. omega (arith, near.few, near.near, alike.other)));
          }
