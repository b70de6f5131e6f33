-- What the reader answers, with zeros behind its records.
--     concludes_refused     the query check refuses the record bytes
--     concludes_longer      they are accepted, and longer than the lent bytes
--     concludes_fits        .. and fit
--     outside_call          the text is outside the grammar
--     inside_call           it is in the grammar, and its record bytes decide
--     few                   there is room for them in the array
--     clears                the answer that was found, over the bytes that are left once zeros stand behind its records
use Rattle.std.specs.Prelude.{Result, Ok, Err}
use Prim.Native.Nat.{ℕ, ◌≤◌, ◌<◌, ◌-◌}
use mathlib.Core.Path.{◌≡◌, refl, sym, ap, ◌∙◌}
use mathlib.Core.List.{List, [], ◌∷◌}
use native.Mathlib.Omega.{arith}
use borrow.Author.Tests.{le-leb, lt-leb}
use lib.ListN.{length, take, drop, replicate, length-drop, length-take}
use Rattle.laws.specs.Attempt.{refuses, reads}
use Rattle.laws.specs.Rows.{padded}
use Rattle.meaning.specs.Query.{Read, query_read}
use Rattle.codes.specs.Refusals.{number_of, refusal}
use Rattle.codes.specs.declared.refusals.Reason.TheVariants.{Longer, Outside}
use Rattle.codes.specs.declared.refusals.Refusal.{Refusal}
use Rattle.meaning.specs.Calls.{Answer, Outcome}
use Rattle.meaning.specs.Calls as Calls
use Rattle.pen.specs.Penned.{Pens}
use Rattle.pen.proofs.Penned.{cleared_from_0}
use Rattle.pen.proofs.Putting.{pens_cleared}
use Rattle.grammar.specs.Words.{symbol}
use Rattle.grammar.specs.Grammar.{most_groups}
use Rattle.grammar.specs.Typed.{Typed, TypedCall, outside, inside, records_outcome}
use Rattle.parsing.specs.declared.Ends.TheVariants.{WithText}
use Rattle.parsing.specs.declared.Next.{Next}
use Rattle.parsing.specs.Reader.{answer, readers, read_expr, read}
use Rattle.parsing.proofs.Theorems.{read_typed, refused_outside}
use Rattle.recording.specs.Recorded.{most_bytes, Recorded}
use Rattle.recording.proofs.Recording.{recorded_none}
use Rattle.recording.proofs.Answering.{recorded_answers}
use Rattle.operands.specs.Going.{Goes, Halts, Adding, part_value}
use Rattle.reader.specs.declared.Typed as reader
use Rattle.reader.specs.Answers.{outcome, bytes_of, cleared, HandsOut, answered}

same_outcome : {a b : Answer} {y z : List ℕ} → a ≡ b → y ≡ z
    → ◌≡◌ {A = Outcome ℕ} (record { answer = a; left = y }) (record { answer = b; left = z })
same_outcome e f = rw (e, f)

-- a refusal leaves zeros
refused_outcome : (r : Refusal) (x y : List ℕ) → length y ≡ length x
    → outcome (Err r) (cleared (Err r) y) ≡ Calls.refusal 0 (length x) (number_of r.reason) r.place
unfolding answered Calls.refusal
refused_outcome r x y l =
    same_outcome refl (cleared_from_0 (length y) 0 y ∙ ap (λ (n : ℕ). replicate n 0) l)

module _ (bs x : List ℕ) where
  pub concludes_refused : (r : Refusal) → query_read bs ≡ refuses (number_of r.reason) r.place
      → HandsOut bs x x (Err r)
  unfolding records_outcome
  concludes_refused r e = rw e (refused_outcome r x x refl)

  module _ (found : Read) (e : query_read bs ≡ reads found) where
    pub concludes_longer : length x < length bs → HandsOut bs x x (Err (refusal Longer 0))
    unfolding records_outcome
    concludes_longer l =
        rw (e, lt-leb (length bs) (length x) l) (refused_outcome (refusal Longer 0) x x refl)

    pub concludes_fits : (w : List ℕ) (records : ℕ) {n : ℕ} → found.records ≡ records
        → length bs ≤ length x
        → Pens 0 bs x w n
        → HandsOut bs x w (Ok (record { records = records; bytes = length bs }))
    unfolding records_outcome answered
    concludes_fits w records {n} count l g =
        let ends : n ≡ length bs = omega (arith, g.ends) in
        rw (e, le-leb (length bs) (length x) l)
        (same_outcome (ap (λ (k : ℕ). Answer.gives (k ∷ length bs ∷ [])) (sym count))
        (ap (λ (k : ℕ). padded 0 (length w) (take k w)) (sym ends) ∙ pens_cleared g l))

-- The call

module _ (t : List ℕ) where
  left_at : (p : ℕ) → p ≤ length t → length t - length (drop p t) ≡ p
  left_at p h = omega (arith, length-drop p t)

  pub outside_call : (x : List ℕ) (p : ℕ)
      → Halts t (read_expr (readers (length t)) most_groups WithText symbol t) p
      → TypedCall t (length x) (outcome (Err (refusal Outside p)) (cleared (Err (refusal Outside p)) x))
  outside_call x p h =
      let refused_read : read t ≡ refuses 9 p =
      ap (answer (length t)) h.means ∙ ap (λ (k : ℕ). refuses 9 k) (left_at p h.inside) in
      outside p (refused_outside t 9 p refused_read) (refused_outcome (refusal Outside p) x x refl)

  module _ {before after : List ℕ} {n : Next} {at to : ℕ} (long : length before ≡ most_bytes)
      (g : Goes t 0 (read_expr (readers (length t)) most_groups WithText symbol t) (part_value n)
      (Adding before after 0 to) at to) where
    is_typed : Typed t g.bytes
    is_typed = read_typed t g.bytes (ap (answer (length t)) g.means)

    held : Recorded g.bytes after to
    held = g.kept.adds [] (recorded_none before long)

    -- the code's slice of the array begins at 0
    from_zero : take (to - 0) after ≡ take to after
    from_zero = let e : to - 0 ≡ to = omega arith in ap (λ (k : ℕ). take k after) e

    pub inside_call : (r : Result reader.Typed Refusal) (x y : List ℕ) → HandsOut (take (to - 0) after) x y r
        → TypedCall t (length x) (outcome r (cleared r y))
    inside_call r x y h =
        inside g.bytes is_typed
        (h ∙ ap (λ (bs : List ℕ). records_outcome (length x) bs (query_read bs)) from_zero
        ∙ sym (recorded_answers held (length x)))

    pub few : length (take (to - 0) after) ≤ most_bytes
    few = omega (arith, length-take (to - 0) after, g.within)

pub clears : {t : List ℕ} {lent n : ℕ} (y : List ℕ) {z : List ℕ} (r s : Result reader.Typed Refusal) → s ≡ r
    → n ≡ bytes_of r
    → TypedCall t lent (outcome r (cleared r y))
    → z ≡ padded 0 (length y) (take n y)
    → TypedCall t lent (outcome s z)
clears y r s e f h g = rw (e, g, f) h
