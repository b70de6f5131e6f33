-- A row's own fields, test by test, as code decides them.
--     not_name, name            a number below 0 is no name; any other is one below 65,536
--     kind_element, kind_text, kind_other   the three ways that a kind goes
use Prim.Native.Nat.{ℕ}
use native.Mathlib.Omega.{arith}
use mathlib.Core.Bool.{true, false}
use mathlib.Core.Path.{◌≡◌, refl, sym, subst}
use lib.IntN.{ℤ, pos, negsuc}
use lib.Signed.{lt_z, le_z}
use borrow.Author.Tests.{leb-false, eq-eqb, ne_eqb}
use Rattle.meaning.specs.Catalogue.{is_name, element, text}
use Rattle.sound_rows.specs.Kinds.{text_sound, kind_sound}

pub not_name : (z : ℤ) → le_z (pos 0) z ≡ false → le_z (pos 0) z ≡ is_name z
unfolding is_name
not_name (pos n) e = absurd (omega (arith, leb-false 0 n e))
not_name (negsuc n) e = refl

pub name : (z : ℤ) → le_z (pos 0) z ≡ true → lt_z z (pos 65536) ≡ is_name z
unfolding is_name
name (pos n) e = refl
name (negsuc n) e = let z : ◌≡◌ {A = ℕ} 0 1 = cc in absurd (omega arith)

pub kind_element : (s l k : ℕ) (p : ℤ) → k ≡ element → is_name p ≡ kind_sound s l k p
unfolding kind_sound
kind_element s l k p h = rw (eq-eqb k element h)

pub kind_text : (s l k : ℕ) (p : ℤ) → k ≡ text → text_sound s l ≡ kind_sound s l k p
unfolding kind_sound text_sound
kind_text s l k p h = subst (λ (x : ℕ). text_sound s l ≡ kind_sound s l x p) (sym h) refl

pub kind_other : (s l k : ℕ) (p : ℤ) → (k ≡ element → ⊥) → (k ≡ text → ⊥) → false ≡ kind_sound s l k p
unfolding kind_sound
kind_other s l k p h i = rw (ne_eqb k element h, ne_eqb k text i)
