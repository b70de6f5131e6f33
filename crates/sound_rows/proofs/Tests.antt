-- The definitions of a row that is sound, test by test, as this crate's functions decide it.
--     own_deep, own_far, own_kind     a row's own fields
--     own_read                        .. by the numbers that were read
--     row_none, row_found             a row that was read, by whether it is sound
--     row_read, row_unread            whether a row is sound, by what was read
--     row_cut, row_mark, row_own      a row
use Rattle.std.specs.Prelude.{Option, Some, None}
use Rattle.std.specs.Bool.{then_some}
use Prim.Native.Nat.{ℕ, ◌*◌, ◌≤◌, ◌<◌}
use native.Mathlib.Omega.{arith}
use mathlib.Core.Bool.{Bool, true, false}
use mathlib.Core.List.{List}
use mathlib.Core.Path.{◌≡◌, sym, ◌∙◌, ap, refl}
use lib.IntN.{ℤ}
use borrow.Author.Tests.{le-leb, lt-leb, eq-eqb, ne_eqb}
use Rattle.cells.specs.Bytes.{word, fits}
use Rattle.laws.specs.Attempt.{fails, gives, provided}
use Rattle.laws.proofs.Outcomes.{gives_same, fails_gives}
use Rattle.meaning.specs.Catalogue.{catalogue_of, mark_dn, own_sound, row_sound}
use Rattle.doc_rows.specs.Fields.{size_at, level_at, kind_at, prop_at}
use Rattle.sound_rows.specs.Answers.{level_of}
use Rattle.sound_rows.specs.Kinds.{kind_sound}

module _ (doc : List ℕ) (r most n : ℕ) where
  pub own_deep : most < level_at doc r → false ≡ own_sound (catalogue_of doc n) r most
  unfolding own_sound catalogue_of level_at
  own_deep h = rw (lt-leb (level_at doc r) most h)

  pub own_far : 63 < level_at doc r → level_at doc r ≤ most → false ≡ own_sound (catalogue_of doc n) r most
  unfolding own_sound catalogue_of level_at
  own_far h k = rw (le-leb (level_at doc r) most k, lt-leb (level_at doc r) 63 h)

  pub own_kind : level_at doc r ≤ 63 → level_at doc r ≤ most
      → kind_sound (size_at doc r) (level_at doc r) (kind_at doc r) (prop_at doc r) ≡ own_sound (catalogue_of doc n) r most
  unfolding own_sound catalogue_of kind_sound size_at level_at kind_at prop_at
  own_kind h k = rw (le-leb (level_at doc r) most k, le-leb (level_at doc r) 63 h)

  -- the same of numbers that were read
  pub own_read : {s l k : ℕ} {p : ℤ} → s ≡ size_at doc r → l ≡ level_at doc r → k ≡ kind_at doc r → p ≡ prop_at doc r
      → l ≤ 63 → l ≤ most → kind_sound s l k p ≡ own_sound (catalogue_of doc n) r most
  own_read es el ek ep h i = rw (es, el, ek, ep) (own_kind (omega arith) (omega arith))

-- a row that was read, by whether it is sound
pub row_none : {b : Bool} (l : ℕ) → false ≡ b → fails ≡ provided b (gives l)
unfolding provided
row_none l e = rw (sym e)

pub row_found : {b t : Bool} {k l : ℕ} → b ≡ t → k ≡ l → level_of (then_some b k) ≡ provided t (gives l)
unfolding level_of provided
row_found {b = true} e d = rw (sym e, d)
row_found {b = false} e d = rw (sym e)

pub row_read : (b : Bool) (l : ℕ) {k : ℕ} (a : Option ℕ) → level_of a ≡ provided b (gives l) → a ≡ Some k
    → (b ≡ true) × (k ≡ l)
unfolding provided level_of
row_read true l a e d = (refl, gives_same (sym (ap level_of d) ∙ e))
row_read false l a e d = absurd (fails_gives _ (sym e ∙ ap level_of d))

pub row_unread : (b : Bool) (l : ℕ) (a : Option ℕ) → level_of a ≡ provided b (gives l) → a ≡ None → b ≡ false
unfolding provided level_of
row_unread true l a e d = absurd (fails_gives _ (sym (ap level_of d) ∙ e))
row_unread false l a e d = refl

module _ (doc : List ℕ) (r most : ℕ) where
  pub row_cut : fits doc (10 * r) 10 ≡ false → false ≡ row_sound doc r most
  unfolding row_sound
  row_cut h = rw h

  pub row_mark : fits doc (10 * r) 10 ≡ true → (word doc (10 * r) 2 ≡ mark_dn → ⊥) → false ≡ row_sound doc r most
  unfolding row_sound
  row_mark h k = rw (h, ne_eqb (word doc (10 * r) 2) mark_dn k)

  pub row_own : fits doc (10 * r) 10 ≡ true → word doc (10 * r) 2 ≡ mark_dn
      → own_sound (catalogue_of doc r) r most ≡ row_sound doc r most
  unfolding row_sound
  row_own h k = rw (h, eq-eqb (word doc (10 * r) 2) mark_dn k)
