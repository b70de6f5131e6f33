-- What an answer of the check tells a caller (document 01, 'The eight refusals').
--     accepted          rows: the bytes read as the catalogue of that many rows
--     accepted_sound    .. which is sound
--     unsound           a refusal: the bytes refuse, with its number and at its place
use Rattle.std.specs.Prelude.{Ok, Err}
use Prim.Native.Nat.{ℕ}
use native.Mathlib.Omega.{arith}
use mathlib.Core.List.{List, [], ◌∷◌}
use mathlib.Core.Path.{◌≡◌, refl, ◌∙◌, ap}
use Rattle.laws.specs.Attempt.{Reading, reads, refuses}
use Rattle.meaning.specs.Calls.{gives, refused_by, catalogue_answer, catalogue_call}
use Rattle.meaning.specs.Catalogue.{Catalogue, catalogue_of, catalogue_read}
use Rattle.catalogue.specs.Answers.{answered}
use Rattle.doc_rows.specs.Sound.{Sound}
use Rattle.codes.specs.Refusals.{number_of}
use Rattle.codes.specs.declared.refusals.Refusal.{Refusal}
use Rattle.doc_rows.proofs.Soundness.{sound}

module _ (doc : List ℕ) (n : ℕ) where
  accepted_of : (x : Reading Catalogue) → ((c : Catalogue) → x ≡ reads c → Sound doc c)
      → gives (n ∷ []) ≡ catalogue_answer x
      → x ≡ reads (catalogue_of doc n)
  unfolding catalogue_answer
  accepted_of (refuses m p) s e = let z : ◌≡◌ {A = ℕ} 0 1 = cc in absurd (omega arith)
  accepted_of (reads c) s e =
      let rows : c.rows ≡ n = cc in
      ap reads ((s c refl).is ∙ ap (catalogue_of doc) rows)

  pub accepted : answered (Ok n) ≡ catalogue_call doc → catalogue_read doc ≡ reads (catalogue_of doc n)
  unfolding answered catalogue_call
  accepted e = accepted_of (catalogue_read doc) (sound doc) e

  pub accepted_sound : answered (Ok n) ≡ catalogue_call doc → Sound doc (catalogue_of doc n)
  accepted_sound e = sound doc (catalogue_of doc n) (accepted e)

module _ (doc : List ℕ) (r : Refusal) where
  unsound_of : (x : Reading Catalogue) → refused_by r ≡ catalogue_answer x → x ≡ refuses (number_of r.reason) r.place
  unfolding catalogue_answer
  unsound_of (refuses m p) e = cc
  unsound_of (reads c) e = let z : ◌≡◌ {A = ℕ} 0 1 = cc in absurd (omega arith)

  pub unsound : answered (Err r) ≡ catalogue_call doc → catalogue_read doc ≡ refuses (number_of r.reason) r.place
  unfolding answered catalogue_call
  unsound e = unsound_of (catalogue_read doc) e
