-- The definitions, turn by turn, as this crate's loops go through the rows: of n rows the one of rank r is at hand.
--     turn_end, turn_over, turn_bad, turn_on      the row checks
--     count_end, count_stop, count_on             the rows that are deeper
--     exact_end, exact_bad, exact_on              the sizes
--     check_bad, check_on, check_rows             the whole check, by what the row checks found
use Prim.Native.Nat.{ℕ, zero, suc, ◌+◌, ◌*◌, ◌-◌, ◌≤◌, ◌<◌}
use native.Mathlib.Numerals.{add-one}
use native.Mathlib.Omega.{arith}
use mathlib.Core.Bool.{true, false}
use mathlib.Core.List.{List}
use mathlib.Core.Path.{◌≡◌, sym, ◌∙◌, ap}
use lib.Dec.{eqb}
use lib.ListN.{length}
use borrow.Author.Tests.{eq-eqb, ne_eqb}
use Rattle.cells.specs.Bytes.{byte_at}
use Rattle.laws.specs.Attempt.{reads, refuses, unless, reading}
use Rattle.meaning.specs.Calls.{catalogue_answer, catalogue_call}
use Rattle.meaning.specs.Catalogue.{Catalogue, catalogue_of, row_sound, rows_sound}
use Rattle.meaning.specs.Catalogue.{deeper, sizes_exact, catalogue_read}
use Rattle.doc_rows.specs.Fields.{size_at, level_at}
use Rattle.doc_rows.proofs.FieldLaws.{level_field}
use Rattle.doc_rows.proofs.Rows.{rows_end, rows_over, rows_next, passed}
use Rattle.doc_rows.proofs.Sizes.{deeper_zero, deeper_none, deeper_more}
use Rattle.catalogue.specs.Answers.{answered, counted}
use Rattle.std.specs.Prelude.{Result, Ok, Err}
use Rattle.codes.specs.declared.refusals.Refusal.{Refusal}

-- of n rows at most
module _ (doc : List ℕ) (r most : ℕ) where
  pub turn_end : (n : ℕ) → length doc ≤ 10 * r → reads r ≡ rows_sound (n - r) doc r most
  turn_end n h = sym (rows_end doc r most (n - r) h)

  pub turn_over : (n : ℕ) → n ≤ r → 10 * r < length doc → refuses 4 (10 * r) ≡ rows_sound (n - r) doc r most
  turn_over n h k =
      let e : zero ≡ n - r = omega arith in
      sym (rows_over doc r most k) ∙ ap (λ (left : ℕ). rows_sound left doc r most) e

  turn : (n : ℕ) → r < n → 10 * r < length doc → rows_sound (n - r) doc r most
      ≡ unless (row_sound doc r most) 4 (10 * r) (rows_sound (n - (r + 1)) doc (r + 1) (level_at doc r + 1))
  unfolding level_at
  turn n h k =
      let e : n - r ≡ suc (n - (r + 1)) = omega arith in
      rw (e, add-one r, add-one (byte_at doc (10 * r + 4))) (rows_next doc r most (n - suc r) k)

  pub turn_bad : (n : ℕ) → r < n → 10 * r < length doc → row_sound doc r most ≡ false
      → refuses 4 (10 * r) ≡ rows_sound (n - r) doc r most
  unfolding unless
  turn_bad n h k e = sym (turn n h k ∙ rw e)

  pub turn_on : (n : ℕ) → r < n → 10 * r < length doc → row_sound doc r most ≡ true
      → rows_sound (n - (r + 1)) doc (r + 1) (level_at doc r + 1) ≡ rows_sound (n - r) doc r most
  unfolding unless
  turn_on n h k e = sym (turn n h k ∙ rw e)

module _ (doc : List ℕ) (n : ℕ) where
  abbrev cat : Catalogue
  cat = catalogue_of doc n

  module _ (l v : ℕ) where
    pub count_end : n ≤ v → deeper cat l v (n - v) ≡ 0
    count_end h =
        let e : n - v ≡ zero = omega arith in
        ap (deeper cat l v) e ∙ deeper_zero cat l v

    pub count_stop : v < n → level_at doc v ≤ l → deeper cat l v (n - v) ≡ 0
    count_stop h k =
        let e : n - v ≡ suc (n - (v + 1)) = omega arith in
        ap (deeper cat l v) e ∙ deeper_none cat l v (n - (v + 1)) (omega (arith, level_field doc n v))

    pub count_on : v < n → l < level_at doc v → deeper cat l v (n - v) ≡ suc (deeper cat l (v + 1) (n - (v + 1)))
    count_on h k =
        let e : n - v ≡ suc (n - (v + 1)) = omega arith in
        let next : suc v ≡ v + 1 = omega arith in
        ap (deeper cat l v) e ∙ deeper_more cat l v (n - (v + 1)) (omega (arith, level_field doc n v))
        ∙ ap (λ (w : ℕ). suc (deeper cat l w (n - (v + 1)))) next

  module _ (r : ℕ) where
    pub exact_end : n ≤ r → sizes_exact cat r (n - r) ≡ reads cat
    unfolding sizes_exact
    exact_end h =
        let e : n - r ≡ zero = omega arith in
        rw e

    exact : r < n → sizes_exact cat r (n - r)
        ≡ unless (eqb (size_at doc r) (deeper cat (level_at doc r) (r + 1) (n - (r + 1)))) 4 (10 * r)
        (sizes_exact cat (r + 1) (n - (r + 1)))
    unfolding sizes_exact catalogue_of size_at level_at
    exact h =
        let e : n - r ≡ suc (n - (r + 1)) = omega arith in
        rw (e, add-one r)

    -- a size that was read, and the count beside it
    module _ {s d : ℕ} (read : s ≡ size_at doc r) (count : d ≡ deeper cat (level_at doc r) (r + 1) (n - (r + 1))) where
      pub exact_bad : r < n → (s ≡ d → ⊥) → sizes_exact cat r (n - r) ≡ refuses 4 (10 * r)
      unfolding unless
      exact_bad h k = exact h ∙ rw (← read, ← count, ne_eqb s d k)

      pub exact_on : r < n → s ≡ d → sizes_exact cat r (n - r) ≡ sizes_exact cat (r + 1) (n - (r + 1))
      unfolding unless
      exact_on h k = exact h ∙ rw (← read, ← count, eq-eqb s d k)

module _ (doc : List ℕ) where
  abbrev RowsRead : Result ℕ Refusal → Type 0
  RowsRead a = counted a ≡ rows_sound 2048 doc 0 0

  pub check_bad : (r : Refusal) → RowsRead (Err r) → answered (Err r) ≡ catalogue_call doc
  unfolding counted answered catalogue_call catalogue_answer catalogue_read reading
  check_bad r e = rw (← e)

  pub check_on :
      (n : ℕ) → RowsRead (Ok n) → catalogue_answer (sizes_exact (catalogue_of doc n) 0 n) ≡ catalogue_call doc
  unfolding counted catalogue_call catalogue_read reading
  check_on n e = rw (← e)

  pub check_rows : (n : ℕ) → RowsRead (Ok n) → 10 * n ≤ length doc
  unfolding counted
  check_rows n e = omega (arith, (passed 2048 doc 0 0 n (omega arith) (sym e)).whole)
