-- The whole plan, and what the translator answers.
--     whole_asked        an accepted query has room for its operators
--     whole_room         and for the last two
--     whole_wrote        the first operator, the query's, and the last two are the whole plan
--     many, long         over 512 operators; longer than the lent bytes
--     owes_refusal       what either owes
--     fits_answer, fits_left    neither
--     zeros_hold         at first every variable's table is 0
--     refusal_answer, refusal_left    what a refusal answers and leaves
--     call_refused, call_read         what the call owes where the query is refused, and where it is read
--     call_whole, call_concludes      what the whole plan is asked, and what its outcome gives the call
--     translates_end                  what the call owes, once the rest of the bytes is cleared
use Rattle.std.specs.Prelude.{Result}
use Prim.Native.Nat.{ℕ, ◌+◌, ◌*◌, ◌≤◌, ◌<◌}
use mathlib.Core.Path.{◌≡◌, refl, sym, ap, ap₂, ◌∙◌}
use mathlib.Core.List.{List, [], ◌∷◌}
use native.Mathlib.Omega.{arith}
use borrow.Author.Tests.{le-leb, lt-leb}
use lib.ListN.{length, take, replicate, get_or-replicate}
use Rattle.laws.specs.Attempt.{gives, refuses, reads, reading, unless}
use Rattle.meaning.specs.Plan.{RT}
use Rattle.meaning.specs.Query.{Query, Read, query_read}
use Rattle.meaning.specs.Translation.{next, tr, tail_last, plan}
use Rattle.meaning.specs.Written.{written}
use Rattle.meaning.specs.Calls.{Answer, Outcome, refusal, refused, plan_of, translate_outcome, translate_call}
use Rattle.laws.specs.Rows.{padded}
use Rattle.theorems.specs.Closed.{records}
use Rattle.query_walks.specs.Parse.{parse}
use Rattle.query_walks.proofs.Accepting.{query_accepted}
use Rattle.pen.proofs.Penned.{cleared_from_0, cleared_penned}
use Rattle.adding.specs.declared.Pen.{Pen}
use Rattle.adding.specs.declared.Output.{Output}
use Rattle.adding.specs.Ruled.{PenRoom, Wrote}
use Rattle.lifting.specs.Lifts.{HoldsTables}
use Rattle.adding.proofs.Adding.{wrote_then, wrote_length}
use Rattle.translating.specs.Translating.{Tree, Asked, Makes}
use Rattle.translator.specs.Answers.{WholeQuery, Concludes, Translates, answered, kept, cleared}
use Rattle.codes.specs.declared.refusals.Refusal.{Refusal}
use Rattle.translator.specs.declared.Translated.{Translated}
use Rattle.translating.proofs.Rooms.{room_less, room_after, ruled_own}
use Rattle.translating.proofs.Splitting.{ruled_is}
use Rattle.translating.proofs.Composing.{wrote_is}

-- where writing starts
abbrev pub start : Pen
start = record { operators = 0; at = 0 }

module _ (bs x y : List ℕ) (p : Pen) (h : WholeQuery bs) (first : Wrote (RT ∷ []) x start y p) where
  room : PenRoom p (37 * records h.q + 2)
  room = record { few = omega (arith, first.count, h.few); short = omega (arith, first.short) }

  abbrev pub whole_tree : Tree (parse 32 bs 0)
  whole_tree = record { q = h.q; end = length bs; given = h.read }

  pub whole_asked : Asked (parse 32 bs 0) p
  whole_asked = record { tree = whole_tree; room = room_less _ room (omega arith) }

  pub whole_room : {l : ℕ} {ts z : List ℕ} {r : Output} → Makes (parse 32 bs 0) l ts y p z r → PenRoom r.pen 2
  whole_room m = room_after h.q _ _ _ (ruled_own m whole_tree) 2 _ room (omega arith)

-- every variable's table is 0
pub zeros_hold : HoldsTables (replicate 8 0) (λ v. 0)
zeros_hold v h = get_or-replicate 8 v 0 0 h

pub whole_wrote :
    (bs : List ℕ) (q : Query) → parse 32 bs 0 ≡ gives (q, length bs) →
    {x y z w : List ℕ} {p s : Pen} {r : Output} → Wrote (RT ∷ []) x start y p →
    Makes (parse 32 bs 0) 0 (replicate 8 0) y p z r → Wrote (tail_last r.pen.operators r.table) z r.pen w s →
    Wrote (plan q) x start w s
unfolding plan next
whole_wrote bs q read {p = p} {r = r} first made last =
    let t : Tree (parse 32 bs 0) = record { q = q; end = length bs; given = read } in
    let body = made.made t (λ v. 0) zeros_hold in
    let one : p.operators ≡ 1 = omega (arith, first.count) in
    let b = ruled_is (ap (λ (n : ℕ). tr q n 0 (λ v. 0)) one) refl body in
    let count : r.pen.operators ≡ 1 + length (tr q 1 0 (λ v. 0)).ops = omega (arith, b.wrote.count, one) in
    wrote_then first (wrote_then b.wrote (wrote_is (ap₂ tail_last count b.table) last))

-- cleared bytes
blank : (x y : List ℕ) → y ≡ padded 0 (length x) (take 0 x) → y ≡ replicate (length x) 0
blank x y e = e ∙ cleared_from_0 (length x) 0 x

-- what a refusal leaves
module _ (o : Outcome ℕ) (lent n p : ℕ) (e : o ≡ refusal 0 lent n p) where
  pub refusal_answer : (a : Answer) → a ≡ refused n p → a ≡ o.answer
  unfolding refusal
  refusal_answer a h = h ∙ sym (ap (λ (o : Outcome ℕ). o.answer) e)

  pub refusal_left : (x y : List ℕ) → length x ≡ lent → y ≡ padded 0 (length x) (take 0 x) → y ≡ o.left
  unfolding refusal
  refusal_left x y l h =
      blank x y h ∙ ap (λ (n : ℕ). replicate n 0) l ∙ sym (ap (λ (o : Outcome ℕ). o.left) e)

module _ (q : Query) (x w : List ℕ) (r : Pen) (g : Wrote (plan q) x start w r) where
  operators : r.operators ≡ length (plan q)
  operators = omega (arith, g.count)

  bytes : r.at ≡ length (written (plan q))
  bytes = omega (arith, g.pens.ends)

  pub many : 512 < r.operators → translate_outcome (length x) (plan_of (length x) q) ≡ refusal 0 (length x) 2 0
  unfolding translate_outcome plan_of unless
  many h = rw (lt-leb (length (plan q)) 512 (omega (arith, operators)))

  pub long :
      r.operators ≤ 512 → length w < r.at →
      translate_outcome (length x) (plan_of (length x) q) ≡ refusal 0 (length x) 8 0
  unfolding translate_outcome plan_of unless
  long h k =
      rw (
        le-leb (length (plan q)) 512 (omega (arith, operators)),
        lt-leb (length (written (plan q))) (length x) (omega (arith, bytes, wrote_length g)),
      )

  -- a refusal, over cleared bytes
  pub owes_refusal :
      (n : ℕ) (a : Answer) (y : List ℕ) →
      translate_outcome (length x) (plan_of (length x) q) ≡ refusal 0 (length x) n 0 →
      a ≡ refused n 0 → y ≡ padded 0 (length w) (take 0 w) →
      (a ≡ (translate_outcome (length x) (plan_of (length x) q)).answer) ×
      (y ≡ (translate_outcome (length x) (plan_of (length x) q)).left)
  owes_refusal n a y e d h =
      (refusal_answer _ (length x) n 0 e a d, refusal_left _ (length x) n 0 e w y (wrote_length g) h)

  module _ (h : r.operators ≤ 512) (k : r.at ≤ length w) where
    within : length (written (plan q)) ≤ length x
    within = omega (arith, bytes, wrote_length g)

    outcome :
        translate_outcome (length x) (plan_of (length x) q)
        ≡ record {
          answer = Answer.gives (length (plan q) ∷ length (written (plan q)) ∷ []);
          left = padded 0 (length x) (written (plan q));
        }
    unfolding translate_outcome plan_of unless
    outcome =
        rw (
          le-leb (length (plan q)) 512 (omega (arith, operators)),
          le-leb (length (written (plan q))) (length x) within,
        )

    pub fits_answer :
        Answer.gives (r.operators ∷ r.at ∷ []) ≡ (translate_outcome (length x) (plan_of (length x) q)).answer
    fits_answer =
        ap₂ (λ (n m : ℕ). Answer.gives (n ∷ m ∷ [])) operators bytes ∙ sym (ap (λ (o : Outcome ℕ). o.answer) outcome)

    -- what stands before the plan's end is the plan
    pub fits_left :
        (y : List ℕ) → y ≡ padded 0 (length w) (take r.at w) → y ≡ (translate_outcome (length x) (plan_of
        (length x) q)).left
    fits_left y c =
        c
        ∙ ap₂ (λ (n m : ℕ). padded 0 n (take m w)) (wrote_length g) bytes
        ∙ ap (λ (l : List ℕ). padded 0 (length x) (take (length (written (plan q))) l)) g.pens.leaves
        ∙ cleared_penned (length x) 0 x (written (plan q)) within
        ∙ sym (ap (λ (o : Outcome ℕ). o.left) outcome)

-- the call

pub call_refused :
    (bs : List ℕ) (lent k p : ℕ) → query_read bs ≡ refuses k p → translate_call bs lent ≡ refusal 0 lent k p
unfolding translate_call translate_outcome reading
call_refused bs lent k p e = rw e

pub call_read :
    (bs : List ℕ) (lent : ℕ) (r : Read) → query_read bs ≡ reads r →
    translate_call bs lent ≡ translate_outcome lent (plan_of lent r.tree)
unfolding translate_call reading
call_read bs lent r e = rw e

pub call_whole : (bs : List ℕ) (r : Read) → query_read bs ≡ reads r → WholeQuery bs
call_whole bs r e =
    let a = query_accepted bs r e in
    record { q = r.tree; read = a.parses; few = a.few }

pub call_concludes :
    (bs x z : List ℕ) (r : Read) (t : Result Translated Refusal) → query_read bs ≡ reads r → Concludes bs x z t →
    (answered t ≡ (translate_call bs (length x)).answer) × (z ≡ (translate_call bs (length x)).left)
call_concludes bs x z r t e g =
    let same = sym (call_read bs (length x) r e) in
    let owed = g r.tree (query_accepted bs r e).parses in
    (owed.0 ∙ ap (λ (o : Outcome ℕ). o.answer) same, owed.1 ∙ ap (λ (o : Outcome ℕ). o.left) same)

-- what the call owes of what was planned, once the rest is cleared
pub translates_end :
    (bs x y z : List ℕ) (r s : Result Translated Refusal) (k : ℕ) → Translates bs x (cleared (kept r) y) r → s ≡ r →
    k ≡ kept r → z ≡ cleared k y → Translates bs x z s
translates_end bs x y z r s k g e f h = (ap answered e ∙ g.0, h ∙ ap (λ (n : ℕ). cleared n y) f ∙ g.1)
