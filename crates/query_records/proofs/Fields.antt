-- A record that is read ends after its offset and within the bytes, and its fields are in their ranges.
--     record_given      every record that `record_of` gives is sound
--     record_sound      the same, of one record
use Prim.Native.Nat.{ℕ, ◌+◌, ◌≤◌, ◌<◌}
use mathlib.Core.Path.{◌≡◌}
use mathlib.Core.List.{List}
use native.Mathlib.Omega.{arith}
use borrow.Author.Tests.{leb-true}
use lib.Dec.{eqb}
use lib.ListN.{length}
use Rattle.cells.specs.Bytes.{byte_at, fits}
use Rattle.laws.specs.Attempt.{Attempt, gives, attempt, Given}
use Rattle.meaning.specs.Query.{Record, root, variable, letting, for, mark_ql, mark_qb, mark_qe, mark_qr, mark_qv}
use Rattle.meaning.specs.Query.{mark_qs}
use Rattle.meaning.specs.Query.{mark_qt, mark_qf, mark_qi, mark_qo, mark_qc, mark_qd, mark_qx, variable_of}
use Rattle.meaning.specs.Query.{fragment_of, sized}
use Rattle.meaning.specs.Query.{record_of}
use Rattle.laws.proofs.Outcomes.{given_fails, given_gives, given_cond, given_provided, given_attempt}
use Rattle.laws.proofs.Outcomes.{given_any}
use Rattle.theorems.proofs.Ranges.{variable_below, fragment_within}
use Rattle.query_records.specs.Fields.{Ranged, SoundRecord}

module _ (bs : List ℕ) (at : ℕ) where
  sized_sound : (n : ℕ) (a : Attempt Record) → 0 < n → Given Ranged a → Given (SoundRecord bs at) (sized bs at n a)
  unfolding sized fits
  sized_sound n a h g =
      given_provided _
      (λ t.
      given_attempt g
      (λ r k.
      let l : at + n ≤ length bs = leb-true (at + n) (length bs) t in
      given_gives (record { after = omega arith; within = omega arith; ranged = k })))

  -- a record of one byte in its range
  field :
      (a : Attempt ℕ) (f : ℕ → Record) (P : ℕ → Type 0) → Given P a → ((v : ℕ) → P v → Ranged (f v)) →
      Given (SoundRecord bs at) (sized bs at 3 (attempt a (λ v. gives (f v))))
  field a f P g h = sized_sound 3 _ (omega arith) (given_attempt g (λ v k. given_gives (h v k)))

  -- a record whose fields have no range to keep
  plain : (n : ℕ) (r : Record) → 0 < n → Ranged r → Given (SoundRecord bs at) (sized bs at n (gives r))
  plain n r h k = sized_sound n (gives r) h (given_gives k)

  pub record_given : (mark : ℕ) → Given (SoundRecord bs at) (record_of bs at mark)
  unfolding record_of Ranged
  record_given mark =
      let b = byte_at bs (at + 2) in
      given_cond (eqb mark mark_ql) (plain 6 _ (omega arith) tt)
      (given_cond (eqb mark mark_qb) (sized_sound 3 _ (omega arith) (given_any _ (λ z. given_gives tt)))
      (given_cond (eqb mark mark_qe) (plain 2 _ (omega arith) tt)
      (given_cond (eqb mark mark_qr) (field (fragment_of b) root _ (fragment_within b) (λ k h. h))
      (given_cond (eqb mark mark_qv) (field (variable_of b) variable _ (variable_below b) (λ v h. h))
      (given_cond (eqb mark mark_qs) (plain 2 _ (omega arith) tt)
      (given_cond (eqb mark mark_qt) (field (variable_of b) letting _ (variable_below b) (λ v h. h))
      (given_cond (eqb mark mark_qf) (field (variable_of b) for _ (variable_below b) (λ v h. h))
      (given_cond (eqb mark mark_qi) (plain 2 _ (omega arith) tt)
      (given_cond (eqb mark mark_qo) (sized_sound 3 _ (omega arith) (given_any _ (λ f. given_gives tt)))
      (given_cond (eqb mark mark_qc) (plain 2 _ (omega arith) tt)
      (given_cond (eqb mark mark_qd) (plain 2 _ (omega arith) tt)
      (given_cond (eqb mark mark_qx)
      (sized_sound 6 _ (omega arith) (given_any _ (λ x. given_any _ (λ t. given_gives tt)))) given_fails))))))))))))

  pub record_sound : (mark : ℕ) (x : Record × ℕ) → record_of bs at mark ≡ gives x → SoundRecord bs at x
  record_sound mark x e = (record_given mark).given x e
