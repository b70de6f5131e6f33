-- The array answers for the whole: where all record bytes have room it holds them, and where they pass its end it is
-- refused as they are.
--     recorded_whole      up to 1,024 bytes: all of them
--     recorded_refused    from 1,024 bytes on: refused with the same number and place
--     recorded_answers    so the outcome of the records is that of the bytes of the array
use Prim.Native.Nat.{ℕ, ◌≤◌, ◌<◌}
use mathlib.Core.Path.{◌≡◌, refl, sym, ◌∙◌, ap}
use mathlib.Core.List.{List}
use mathlib.Core.Bool.{Bool, true, false}
use native.Mathlib.Omega.{arith}
use borrow.Author.Tests.{leb-true, leb-false}
use lib.Dec.{leb}
use lib.ListN.{length, take, length-take}
use lib.Seq.{take_all}
use Rattle.meaning.specs.Query.{query_read}
use Rattle.grammar.specs.Typed.{records_outcome}
use Rattle.recording.specs.Recorded.{most_bytes, Recorded}
use Rattle.recording.specs.Agreeing.{Refused}
use Rattle.recording.proofs.Agreeing.{refused_alike}

module _ {bs bytes : List ℕ} {made : ℕ} (recorded : Recorded bs bytes made) where
  pub recorded_whole : length bs ≤ most_bytes → take made bytes ≡ bs
  recorded_whole h = recorded.holds ∙ take_all most_bytes bs h

  pub recorded_refused : most_bytes ≤ length bs → Refused (query_read bs) (query_read (take made bytes))
  recorded_refused h =
      let long : length (take made bytes) ≡ most_bytes =
      length-take made bytes ∙ omega (arith, recorded.counts, recorded.long) in
      refused_alike
      (record {
        long = h;
        other = omega arith;
        front = sym recorded.holds ∙ sym (take_all most_bytes (take made bytes) (omega arith));
      })

  pub recorded_answers :
      (lent : ℕ) →
      records_outcome lent bs (query_read bs) ≡ records_outcome lent (take made bytes) (query_read (take made bytes))
  unfolding records_outcome
  recorded_answers lent = go (leb (length bs) most_bytes) refl
    where
      go :
          (t : Bool) → leb (length bs) most_bytes ≡ t →
          records_outcome lent bs (query_read bs) ≡ records_outcome lent (take made bytes) (query_read (take made bytes))
      go true e =
          let whole : take made bytes ≡ bs = recorded_whole (leb-true (length bs) most_bytes e) in
          ap (λ (l : List ℕ). records_outcome lent l (query_read l)) (sym whole)
      go false e =
          let l : most_bytes < length bs = leb-false (length bs) most_bytes e in
          let r : Refused (query_read bs) (query_read (take made bytes)) = recorded_refused (omega arith) in
          ap (records_outcome lent bs) r.here ∙ sym (ap (records_outcome lent (take made bytes)) r.there)
