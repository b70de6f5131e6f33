-- The whole text, and what the writer answers.
--     whole_asked        an accepted query has room for its text
--     whole_wrote        the query's text is written from 0 on
--     long               it is longer than the lent bytes
--     fits_answer, fits_left    it is not
--     call_refused, call_read         what the call owes where the query is refused, and where it is read
--     concludes_refused, concludes_longer, concludes_fits      what the answer is then, over what is left
use Rattle.std.specs.Prelude.{Ok, Err}
use Prim.Native.Nat.{ℕ, ◌≤◌, ◌<◌}
use mathlib.Core.Path.{◌≡◌, refl, sym, ap, ◌∙◌}
use mathlib.Core.List.{List, [], ◌∷◌}
use native.Mathlib.Omega.{arith}
use borrow.Author.Tests.{le-leb, lt-leb}
use lib.ListN.{length, take, replicate}
use Rattle.cells.specs.Bytes.{Bytes}
use Rattle.codes.specs.Refusals.{number_of, refusal}
use Rattle.codes.specs.declared.refusals.Reason.TheVariants.{Longer}
use Rattle.codes.specs.declared.refusals.Refusal.{Refusal}
use Rattle.laws.specs.Attempt.{refuses, reads, reading, unless}
use Rattle.laws.specs.Rows.{padded}
use Rattle.meaning.specs.Query.{Query, Read, query_read}
use Rattle.meaning.specs.Calls.{Answer, Outcome}
use Rattle.meaning.specs.Calls as Calls
use Rattle.pen.specs.Penned.{Pens}
use Rattle.pen.proofs.Penned.{cleared_from_0}
use Rattle.pen.proofs.Putting.{pens_length, pens_cleared}
use Rattle.grammar.specs.Grammar.{expr}
use Rattle.grammar.specs.Written.{text_of, lent_text, write_outcome, write_call}
use Rattle.grammar.proofs.Lengths.{written_long}
use Rattle.query_walks.specs.Parse.{parse}
use Rattle.query_walks.proofs.Accepting.{query_accepted}
use Rattle.wording.specs.declared.Spot.{Spot}
use Rattle.wording.specs.Wording.{Asked, Makes}
use Rattle.wording.specs.Answers.{WritesWhole, answered}

pub whole_asked :
    (bs : List ℕ) (r : Read) → Bytes bs → query_read bs ≡ reads r → Asked (parse 32 bs 0) (text_of expr) 0
whole_asked bs r h e =
    record {
      found = (r.tree, length bs);
      given = (query_accepted bs r e).parses;
      room = omega (arith, written_long bs r h e);
    }

whole_wrote :
    (bs : List ℕ) (r : Read) → query_read bs ≡ reads r → {x y : List ℕ} {s : Spot} →
    Makes (parse 32 bs 0) (text_of expr) x 0 y s → Pens 0 (text_of expr r.tree) x y s.end
whole_wrote bs r e m = m.wrote (r.tree, length bs) (query_accepted bs r e).parses

module _ (q : Query) (x w : List ℕ) (n : ℕ) (g : Pens 0 (text_of expr q) x w n) where
  bytes : n ≡ length (text_of expr q)
  bytes = omega (arith, g.ends)

  long : length w < n → write_outcome (length x) (lent_text (length x) q) ≡ Calls.refusal 0 (length x) 8 0
  unfolding write_outcome lent_text unless
  long h = rw (lt-leb (length (text_of expr q)) (length x) (omega (arith, bytes, pens_length g)))

  module _ (h : n ≤ length w) where
    within : length (text_of expr q) ≤ length x
    within = omega (arith, bytes, pens_length g)

    outcome :
        write_outcome (length x) (lent_text (length x) q)
        ≡ record {
          answer = Answer.gives (length (text_of expr q) ∷ []);
          left = padded 0 (length x) (text_of expr q);
        }
    unfolding write_outcome lent_text unless
    outcome = rw (le-leb (length (text_of expr q)) (length x) within)

    fits_answer : Answer.gives (n ∷ []) ≡ (write_outcome (length x) (lent_text (length x) q)).answer
    fits_answer =
        ap (λ (k : ℕ). Answer.gives (k ∷ [])) bytes ∙ sym (ap (λ (o : Outcome ℕ). o.answer) outcome)

    -- what stands before the text's end is the text
    fits_left : padded 0 (length w) (take n w) ≡ (write_outcome (length x) (lent_text (length x) q)).left
    fits_left = pens_cleared g within ∙ sym (ap (λ (o : Outcome ℕ). o.left) outcome)

-- the call

call_refused :
    (bs : List ℕ) (lent k p : ℕ) → query_read bs ≡ refuses k p → write_call bs lent ≡ Calls.refusal 0 lent k p
unfolding write_call write_outcome reading
call_refused bs lent k p e = rw e

call_read :
    (bs : List ℕ) (lent : ℕ) (r : Read) → query_read bs ≡ reads r →
    write_call bs lent ≡ write_outcome lent (lent_text lent r.tree)
unfolding write_call reading
call_read bs lent r e = rw e

-- a refusal leaves zeros
by_refusal :
    (bs x y : List ℕ) (r : Refusal) →
    write_call bs (length x) ≡ Calls.refusal 0 (length x) (number_of r.reason) r.place → length y ≡ length x →
    WritesWhole bs x y (Err r)
unfolding answered Calls.refusal
by_refusal bs x y r e l = rw e (refl, cleared_from_0 (length y) 0 y ∙ ap (λ (n : ℕ). replicate n 0) l)

module _ (bs x : List ℕ) where
  pub concludes_refused :
      (r : Refusal) → query_read bs ≡ refuses (number_of r.reason) r.place → WritesWhole bs x x (Err r)
  concludes_refused r e = by_refusal bs x x r (call_refused bs (length x) _ _ e) refl

  module _ (w : List ℕ) (s : Spot) (r : Read) (e : query_read bs ≡ reads r)
      (m : Makes (parse 32 bs 0) (text_of expr) x 0 w s) where
    wrote : Pens 0 (text_of expr r.tree) x w s.end
    wrote = whole_wrote bs r e m

    pub concludes_longer : length w < s.end → WritesWhole bs x w (Err (refusal Longer 0))
    concludes_longer h =
        by_refusal bs x w (refusal Longer 0) (call_read bs (length x) r e ∙ long r.tree x w s.end wrote h)
        (pens_length wrote)

    pub concludes_fits : s.end ≤ length w → WritesWhole bs x w (Ok s.end)
    unfolding answered
    concludes_fits h =
        rw (call_read bs (length x) r e)
        (fits_answer r.tree x w s.end wrote h, fits_left r.tree x w s.end wrote h)
