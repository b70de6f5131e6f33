-- What a catalogue that passes the check is (document 01, 'Catalogue rows').
--     ranged            every number in a row is an integer
--     nested            sizes and levels fit together
--     sound             all that the check promises
--     nested_fields     what a sound catalogue gives, over the fields that code reads
--     row_room          the rows of a sound catalogue are all there
use Prim.Native.Nat.{ℕ, zero, suc, ◌+◌, ◌*◌, ◌-◌, ◌≤◌, ◌<◌}
use native.Mathlib.Omega.{arith}
use mathlib.Core.Bool.{Bool, true, false, cond}
use mathlib.Core.List.{List}
use mathlib.Core.Path.{◌≡◌, refl, sym, ap, subst}
use lib.Dec.{ltb}
use lib.IntN.{pos, negsuc}
use lib.ListN.{length}
use borrow.Author.Tests.{lt-ltb, ltb-false}
use Rattle.cells.specs.Bytes.{int4, signed, word, byte_at}
use Rattle.cells.specs.Cell.{in_range}
use Rattle.laws.specs.Attempt.{Reading, reads, refuses, reading}
use Rattle.meaning.specs.Catalogue.{Catalogue, catalogue_of, deeper, rows_sound, sizes_exact, catalogue_read}
use Rattle.doc_rows.specs.Fields.{size_at, level_at}
use Rattle.doc_rows.specs.Nested.{Nested}
use Rattle.doc_rows.specs.Sound.{Own, Sound}
use Rattle.doc_rows.proofs.Rows.{PassedRows, passed, row}
use Rattle.doc_rows.proofs.Sizes.{ExactSizes, sizes, deeper_few, deeper_in, deeper_end}

signed_ranged : (u : ℕ) → in_range (signed 0x8000_0000 u) ≡ true
unfolding signed in_range
signed_ranged u = go (ltb u 0x8000_0000) refl
  where
    go : (b : Bool) → ltb u 0x8000_0000 ≡ b
        → in_range (cond b (pos u) (negsuc (0x8000_0000 + 0x8000_0000 - 1 - u))) ≡ true
    go true e = e
    go false e = lt-ltb (0x8000_0000 + 0x8000_0000 - 1 - u) 0x8000_0000 (omega (arith, ltb-false u 0x8000_0000 e))

pub ranged : (doc : List ℕ) (at : ℕ) → in_range (int4 doc at) ≡ true
unfolding int4
ranged doc at = signed_ranged (word doc at 4)

-- what the two checks give of each row
record Rows (c : Catalogue) : Type 0 where
  first : 0 < c.rows → Own c 0 0
  later : (v : ℕ) → suc v < c.rows → Own c (suc v) (suc (c.level v))
  exact : (v : ℕ) → v < c.rows → ExactSizes c v (c.rows - suc v)

module _ (c : Catalogue) (rows : Rows c) where
  owned : (v : ℕ) → v < c.rows → (most : ℕ) × Own c v most
  owned zero h = (0, rows.first h)
  owned (suc v) h = (suc (c.level v), rows.later v h)

  nested : Nested c.rows c.size c.level
  nested =
      record {
        inside = λ x v h l k.
            deeper_in c (c.level x) (c.rows - suc x) (suc x) v l (omega (arith, rows.exact x h));
        ends = λ x h k.
            let e = rows.exact x h in
            let there : x + c.size x + 1 ≡ suc x + deeper c (c.level x) (suc x) (c.rows - suc x) = omega arith in
            omega (arith, ap c.level there, deeper_end c (c.level x) (c.rows - suc x) (suc x) (omega arith));
        rises = λ v h.
            let next : v + 1 ≡ suc v = omega arith in
            omega (arith, ap c.level next, (rows.later v (omega arith)).low);
        fits = λ v h. omega (arith, rows.exact v h, deeper_few c (c.level v) (c.rows - suc v) (suc v));
        first = λ h. omega (arith, (rows.first h).low);
        shallow = λ v h. (owned v h).1.shallow;
      }

  sound_rows : (doc : List ℕ) → c ≡ catalogue_of doc c.rows → c.rows ≤ 2048 → 10 * c.rows ≡ length doc → Sound doc c
  unfolding catalogue_of
  sound_rows doc is few whole =
      record {
        is = is;
        few = few;
        whole = whole;
        nested = nested;
        kinds = λ r h. (owned r h).1.kinds;
        named = λ r h. (owned r h).1.named;
        plain = λ r h. (owned r h).1.plain;
        ranged = λ r. rw is (ranged doc (10 * r + 6));
      }

reading_reads : {A B : Type 0} (x : Reading A) (f : A → Reading B) (b : B) → reading x f ≡ reads b
    → (a : A) × (x ≡ reads a) × (f a ≡ reads b)
unfolding reading
reading_reads (refuses n p) f b e = let z : ◌≡◌ {A = ℕ} 0 1 = cc in absurd (omega arith)
reading_reads (reads a) f b e = (a, refl, e)

rows_of_lem : (doc : List ℕ) (n : ℕ) → PassedRows doc 2048 0 0 n
    → ((v : ℕ) → 0 ≤ v → v < 0 + n → ExactSizes (catalogue_of doc n) v (0 + n - suc v))
    → Rows (catalogue_of doc n)
unfolding catalogue_of
rows_of_lem doc n p exact =
    record {
      first = λ h. (row doc 0 0 n (p.head h)).1;
      later = λ v h. (row doc (suc v) (suc (byte_at doc (10 * v + 4))) n (p.tail v (omega arith) h)).1;
      exact = λ v h. subst (ExactSizes (catalogue_of doc n) v) (rest v) (exact v (omega arith) (omega arith));
    }
  where
    rest : (v : ℕ) → 0 + n - suc v ≡ n - suc v
    rest v = omega arith

pub sound : (doc : List ℕ) (c : Catalogue) → catalogue_read doc ≡ reads c → Sound doc c
unfolding catalogue_read catalogue_of
sound doc c e =
    let s = reading_reads (rows_sound 2048 doc 0 0) (λ n. sizes_exact (catalogue_of doc n) 0 n) c e in
    let n = s.0 in
    let p = passed 2048 doc 0 0 n (omega arith) s.1 in
    let t = sizes n (catalogue_of doc n) 0 c s.2 in
    subst (Sound doc) (sym t.0)
    (sound_rows (catalogue_of doc n) (rows_of_lem doc n p t.1) doc refl (omega (arith, p.few)) p.whole)

module _ (doc : List ℕ) (n : ℕ) (s : Sound doc (catalogue_of doc n)) where
  pub nested_fields : Nested n (size_at doc) (level_at doc)
  unfolding catalogue_of size_at level_at
  nested_fields = s.nested

  pub row_room : (r : ℕ) → r < n → 10 * r + 10 ≤ length doc
  unfolding catalogue_of
  row_room r h = omega (arith, s.whole)
