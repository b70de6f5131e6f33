-- The row checks, one row at a time (`rows_sound` of document 01's catalogue).
--     rows_end       where the bytes end, the rows are counted
--     rows_over      bytes where no row may be are refused
--     rows_next      a row that is there decides, and then the rows after it
--     unless_reads   a reading that goes on only where a test holds
--     own            what a row's own check gives
--     PassedRows ..   what the row checks from row r on give
--     passed         they give it
use Prim.Native.Nat.{ℕ, zero, suc, ◌+◌, ◌*◌, ◌≤◌, ◌<◌}
use native.Mathlib.Decide.{dec_le, dec_lt}
use native.Mathlib.Omega.{arith}
use mathlib.Core.Bool.{Bool, true, false, ◌&&◌, cond}
use mathlib.Core.List.{List}
use mathlib.Core.Logic.{inl, inr}
use mathlib.Core.Path.{◌≡◌, refl, sym, ◌∙◌, subst}
use lib.Dec.{leb, eqb}
use lib.IntN.{ℤ, pos, negsuc}
use lib.ListN.{length}
use borrow.Author.Tests.{le-leb, lt-leb, leb-true, ltb-true, eqb-true, eqb-false}
use Rattle.cells.specs.Bytes.{byte_at, fits, word}
use Rattle.laws.specs.Attempt.{Reading, reads, refuses, unless}
use Rattle.laws.proofs.Booleans.{both_true}
use Rattle.meaning.specs.Catalogue.{Catalogue, catalogue_of, is_name, own_sound, row_sound, rows_sound}
use Rattle.meaning.specs.Catalogue.{element, text, mark_dn}
use Rattle.doc_rows.specs.Sound.{Own}

module _ (doc : List ℕ) (r most : ℕ) where
  pub rows_end : (left : ℕ) → length doc ≤ 10 * r → rows_sound left doc r most ≡ reads r
  unfolding rows_sound unless
  rows_end zero h = rw (le-leb (length doc) (10 * r) h)
  rows_end (suc left) h = rw (le-leb (length doc) (10 * r) h, rows_sound)

  pub rows_over : 10 * r < length doc → rows_sound zero doc r most ≡ refuses 4 (10 * r)
  unfolding rows_sound unless
  rows_over h = rw (lt-leb (length doc) (10 * r) h)

  pub rows_next : (left : ℕ) → 10 * r < length doc → rows_sound (suc left) doc r most
      ≡ unless (row_sound doc r most) 4 (10 * r) (rows_sound left doc (suc r) (suc (byte_at doc (10 * r + 4))))
  unfolding rows_sound
  rows_next left h = rw (lt-leb (length doc) (10 * r) h, rows_sound)

pub unless_reads : {A : Type 0} (b : Bool) (n p : ℕ) (x : Reading A) (a : A) → unless b n p x ≡ reads a
    → (b ≡ true) × (x ≡ reads a)
unfolding unless
unless_reads true n p x a e = (refl, e)
unless_reads false n p x a e = let z : ◌≡◌ {A = ℕ} 0 1 = cc in absurd (omega arith)

-- a test of two tests
named : (z : ℤ) → is_name z ≡ true → (p : ℕ) × (z ≡ pos p) × (p < 65536)
unfolding is_name
named (pos n) e = (n, refl, ltb-true n 65536 e)
named (negsuc n) e = let z : ◌≡◌ {A = ℕ} 0 1 = cc in absurd (omega arith)

levels : (l most : ℕ) → (leb l most && leb l 63) ≡ true → (l ≤ most) × (l ≤ 63)
levels l most e =
    let s = both_true (leb l most) (leb l 63) e in
    (leb-true l most s.0, leb-true l 63 s.1)

-- a row that is no element is a text, with size 0 and level at least 1
plain : (k s l : ℕ) → (eqb k text && eqb s 0 && leb 1 l) ≡ true → (k ≡ text) × (s ≡ 0) × (1 ≤ l)
plain k s l e =
    let t = both_true (eqb k text && eqb s 0) (leb 1 l) e in
    let u = both_true (eqb k text) (eqb s 0) t.0 in
    (eqb-true k text u.0, eqb-true s 0 u.1, leb-true 1 l t.1)

module _ (c : Catalogue) (r most : ℕ) (levels : (c.level r ≤ most) × (c.level r ≤ 63)) where
  own_of : (b : Bool) → eqb (c.kind r) element ≡ b
      → cond b (is_name (c.prop r)) (eqb (c.kind r) text && eqb (c.size r) 0 && leb 1 (c.level r)) ≡ true
      → Own c r most
  own_of true k s =
      let one : c.kind r ≡ element = eqb-true _ _ k in
      record {
        low = levels.0;
        shallow = levels.1;
        kinds = inl one;
        named = λ h. named (c.prop r) s;
        plain = λ h. omega arith;
      }
  own_of false k s =
      let t = plain (c.kind r) (c.size r) (c.level r) s in
      record {
        low = levels.0;
        shallow = levels.1;
        kinds = inr t.0;
        named = λ h. absurd (eqb-false _ _ k h);
        plain = λ h. (t.1, t.2);
      }

pub own : (c : Catalogue) (r most : ℕ) → own_sound c r most ≡ true → Own c r most
unfolding own_sound
own c r most e =
    let s =
    both_true (leb (c.level r) most && leb (c.level r) 63) (cond (eqb (c.kind r) element) (is_name (c.prop r))
    (eqb (c.kind r) text && eqb (c.size r) 0 && leb 1 (c.level r))) e in
    own_of c r most (levels (c.level r) most s.0) (eqb (c.kind r) element) refl s.1

-- a row that passes is all there, and its own fields are sound
pub row : (doc : List ℕ) (r most n : ℕ) → row_sound doc r most ≡ true
    → (10 * r + 10 ≤ length doc) × Own (catalogue_of doc n) r most
unfolding row_sound fits catalogue_of own_sound
row doc r most n e =
    let s =
    both_true (fits doc (10 * r) 10 && eqb (word doc (10 * r) 2) mark_dn) (own_sound (catalogue_of doc r) r most) e in
    let t = both_true (fits doc (10 * r) 10) (eqb (word doc (10 * r) 2) mark_dn) s.0 in
    (leb-true _ _ t.0, own (catalogue_of doc n) r most s.1)

-- what the checks of the rows from r on give, where n rows are there
pub record PassedRows (doc : List ℕ) (left r most n : ℕ) : Type 0 where
  pub from : r ≤ n
  pub few : n ≤ r + left
  pub whole : 10 * n ≡ length doc
  pub head : r < n → row_sound doc r most ≡ true
  pub tail : (v : ℕ) → r ≤ v → suc v < n → row_sound doc (suc v) (suc (byte_at doc (10 * v + 4))) ≡ true

passed_end : (doc : List ℕ) (left r most n : ℕ) → 10 * r ≤ length doc → length doc ≤ 10 * r
    → rows_sound left doc r most ≡ reads n
    → PassedRows doc left r most n
passed_end doc left r most n h k e =
    let same : r ≡ n = cc (rows_end doc r most left k) in
    record {
      from = omega arith;
      few = omega arith;
      whole = omega arith;
      head = λ l. absurd (omega arith);
      tail = λ v a b. absurd (omega arith);
    }

module _ (doc : List ℕ) (left r most n : ℕ) (one : row_sound doc r most ≡ true) where
  abbrev next : ℕ
  next = suc (byte_at doc (10 * r + 4))

  passed_tail : PassedRows doc left (suc r) next n → (v : ℕ) → Dec (r < v) → r ≤ v → suc v < n
      → row_sound doc (suc v) (suc (byte_at doc (10 * v + 4))) ≡ true
  passed_tail p v (yes l) h k = p.tail v l k
  passed_tail p v (no l) h k =
      let same : r ≡ v = omega arith in
      subst (λ (w : ℕ). row_sound doc (suc w) (suc (byte_at doc (10 * w + 4))) ≡ true) same (p.head (omega arith))

  passed_more : PassedRows doc left (suc r) next n → PassedRows doc (suc left) r most n
  passed_more p =
      record {
        from = omega arith;
        few = omega arith;
        whole = p.whole;
        head = λ l. one;
        tail = λ v. passed_tail p v (dec_lt r v);
      }

pub passed : (left : ℕ) (doc : List ℕ) (r most n : ℕ) → 10 * r ≤ length doc → rows_sound left doc r most ≡ reads n
    → PassedRows doc left r most n
passed zero doc r most n h e = go (dec_le (length doc) (10 * r))
  where
    go : Dec (length doc ≤ 10 * r) → PassedRows doc zero r most n
    go (yes k) = passed_end doc zero r most n h k e
    go (no k) = let z : ◌≡◌ {A = ℕ} 0 1 = cc (rows_over doc r most (omega arith)) in absurd (omega arith)
passed (suc left) doc r most n h e = go (λ m k d. passed left doc (suc r) m n k d) (dec_le (length doc) (10 * r))
  where
    go : ((m : ℕ) → 10 * suc r ≤ length doc → rows_sound left doc (suc r) m ≡ reads n → PassedRows doc left (suc r) m n)
        → Dec (length doc ≤ 10 * r) → PassedRows doc (suc left) r most n
    go ih (yes k) = passed_end doc (suc left) r most n h k e
    go ih (no k) =
        let next = suc (byte_at doc (10 * r + 4)) in
        let s = unless_reads (row_sound doc r most) 4 (10 * r) (rows_sound left doc (suc r) next) n
        (sym (rows_next doc r most left (omega arith)) ∙ e) in
        passed_more doc left r most n s.0 (ih next (omega (arith, (row doc r most r s.0).0)) s.1)
