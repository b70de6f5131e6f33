-- What the call comes to before the cells past the items are cleared, case by case.
--     call_refused       the query check refuses
--     call_unsound       the catalogue check refuses
--     known_accepted     what an accepted catalogue gives the work
--     call_concluded     the work is done, or refused
use Rattle.std.specs.Prelude.{Result, Ok, Err}
use Prim.Native.Nat.{ℕ, ◌-◌, ◌≤◌}
use mathlib.Core.Path.{◌≡◌, refl, sym, ◌∙◌, ap, subst}
use mathlib.Core.List.{List, [], ◌∷◌}
use native.Mathlib.Omega.{arith}
use lib.IntN.{ℤ, pos}
use lib.ListN.{length, take, replicate}
use Rattle.codes.specs.Refusals.{number_of}
use Rattle.codes.specs.declared.refusals.Refusal.{Refusal}
use Rattle.codes.specs.declared.refusals.Stop.{Stop}
use Rattle.laws.specs.Rows.{row, padded}
use Rattle.laws.proofs.Rows.{length_row}
use Rattle.laws.specs.Attempt.{Reading, reads, reading, Work}
use Rattle.meaning.specs.Catalogue.{Catalogue, catalogue_of, catalogue_read}
use Rattle.meaning.specs.World.{world_of}
use Rattle.meaning.specs.Query.{Read, query_read}
use Rattle.meaning.specs.Counted.{Standing, stand, evaluate}
use Rattle.meaning.specs.Calls.{gives, Outcome, refusal, room, query_call, catalogue_call}
use Rattle.meaning.specs.Calls.{evaluate_outcome, evaluate_call}
use Rattle.queries.specs.Answers as Queries
use Rattle.query_walks.specs.Parse.{parse}
use Rattle.queries.proofs.Callers.{check_reads, check_refuses}
use Rattle.query_walks.proofs.Accepting.{query_accepted}
use Rattle.catalogue.specs.Answers as Catalogues
use Rattle.catalogue.proofs.Accepted.{accepted, accepted_sound, unsound}
use Rattle.step_parts.specs.Steps.{Known}
use Rattle.stack.specs.declared.Stood.{Stood}
use Rattle.stack.specs.Stack.{stood, Fit}
use Rattle.evaluator.specs.declared.Evaluated.{Evaluated}
use Rattle.evaluator.specs.Answers.{answered, concluding}
use Rattle.evaluator.specs.Attempts.{Attempts}
use Rattle.working.specs.Evaluating.{Works}
use Rattle.working_parts.specs.Scopes.{unbound}
use Rattle.working_parts.proofs.Scoping.{holds_nothing}

zeros : (n : ℕ) (cells : List ℤ) → padded (pos 0) n (take 0 cells) ≡ replicate n (pos 0)
unfolding padded
zeros n cells =
    let z : n - 0 ≡ n = omega arith in
    ap (λ (m : ℕ). replicate m (pos 0)) z

attempts_refused :
    (o : Outcome ℤ) (cells : List ℤ) (r : Refusal) → refusal (pos 0) (length cells) (number_of r.reason) r.place ≡ o →
    Attempts o cells (Err r)
unfolding refusal answered
attempts_refused o cells r e =
    subst (λ (o : Outcome ℤ). Attempts o cells (Err r)) e
    (record { answer = refl; left = zeros (length cells) cells; within = omega arith })

-- what stands on the stack decides the answer and the cells
attempts_concluded :
    (few : ℕ) (cells : List ℤ) (m : Result Stood Stop) → Fit 0 few m → few ≤ length cells →
    Attempts (evaluate_outcome (length cells) (reads (stood cells 0 m))) cells (concluding m)
unfolding evaluate_outcome stood stand concluding answered row refusal
attempts_concluded few cells (Ok s) f h =
    let size : s.length ≡ length (row cells 0 s.length) = sym (length_row cells 0 s.length (omega arith)) in
    record { answer = ap (λ (i : ℕ). gives (i ∷ s.count ∷ [])) size; left = refl; within = omega arith }
attempts_concluded few cells (Err (Stop.Full p)) f h =
    record { answer = refl; left = zeros (length cells) cells; within = omega arith }
attempts_concluded few cells (Err (Stop.Failed p)) f h =
    record { answer = refl; left = zeros (length cells) cells; within = omega arith }

pub known_accepted : (doc : List ℕ) (rows : ℕ) → Catalogues.answered (Ok rows) ≡ catalogue_call doc → Known doc rows
unfolding catalogue_of
known_accepted doc rows s =
    let g = accepted_sound doc rows s in
    record { few = g.few; there = omega (arith, g.whole); nested = g.nested }

-- query, then catalogue, then work
abbrev catalogued : List ℕ → ℕ → Read → Reading (Work Standing)
catalogued doc lent r =
    reading (catalogue_read doc) (λ c. reads (evaluate (world_of c) (room lent) (λ v. []) r.tree))

module _ (query doc : List ℕ) (cells : List ℤ) (lent : ℕ) (long : length cells ≡ lent) where
  -- the call, by what is read of the query
  call_read :
      (m : Reading Read) → query_read query ≡ m →
      evaluate_outcome lent (reading m (catalogued doc lent)) ≡ evaluate_call query doc lent
  unfolding evaluate_call
  call_read m e = sym (ap (λ (m : Reading Read). evaluate_outcome lent (reading m (catalogued doc lent))) e)

  -- .. and of the catalogue
  call_reads :
      (t : Read) → query_read query ≡ reads t → (m : Reading Catalogue) → catalogue_read doc ≡ m →
      evaluate_outcome lent (reading m (λ c. reads (evaluate (world_of c) (room lent) (λ v. []) t.tree)))
      ≡ evaluate_call query doc lent
  unfolding reading
  call_reads t e m d =
      sym (ap (λ (m : Reading Catalogue). evaluate_outcome lent
      (reading m (λ c. reads (evaluate (world_of c) (room lent) (λ v. []) t.tree)))) d)
      ∙ call_read (reads t) e

  refusing : (r : Refusal) → refusal (pos 0) lent (number_of r.reason) r.place ≡ evaluate_call query doc lent →
      Attempts (evaluate_call query doc lent) cells (Err r)
  refusing r e =
      attempts_refused _ cells r (ap (λ (n : ℕ). refusal (pos 0) n (number_of r.reason) r.place) long ∙ e)

  pub call_refused :
      (r : Refusal) → Queries.answered (Err r) ≡ query_call query → Attempts (evaluate_call query doc lent) cells
      (Err r)
  unfolding evaluate_outcome reading
  call_refused r q = refusing r (call_read _ (check_refuses query (Err r) q r refl))

  module _ (n : ℕ) (q : Queries.answered (Ok n) ≡ query_call query) where
    pub call_unsound :
        (r : Refusal) → Catalogues.answered (Err r) ≡ catalogue_call doc →
        Attempts (evaluate_call query doc lent) cells (Err r)
    unfolding evaluate_outcome reading
    call_unsound r s =
        let (t, x, y) = check_reads query (Ok n) q n refl in
        refusing r (call_reads t x _ (unsound doc r s))

    pub call_concluded :
        (rows few : ℕ) (before : List ℤ) (m : Result Stood Stop) (r : Result Evaluated Refusal) →
        Catalogues.answered (Ok rows) ≡ catalogue_call doc → few ≡ room lent → few ≤ lent →
        Works (world_of (catalogue_of doc rows)) (parse 32 query 0) 0 few unbound before cells m → r ≡ concluding m →
        Attempts (evaluate_call query doc lent) cells r
    unfolding reading
    call_concluded rows few before m r s k h g e =
        let (t, x, y) = check_reads query (Ok n) q n refl in
        let parses = (query_accepted query t x).parses in
        let is = (g.means (λ v. []) (holds_nothing before) (t.tree, length query) parses).stands in
        let whole : few - 0 ≡ room lent = omega (arith, k) in
        let call : evaluate_outcome (length cells) (reads (stood cells 0 m)) ≡ evaluate_call query doc lent =
        ap (λ (n : ℕ). evaluate_outcome n (reads (stood cells 0 m))) long
        ∙ ap (λ (o : Work Standing). evaluate_outcome lent (reads o))
        (is ∙ ap (λ (f : ℕ). evaluate (world_of (catalogue_of doc rows)) f (λ v. []) t.tree) whole)
        ∙ call_reads t x _ (accepted doc rows s) in
        subst (λ (o : Outcome ℤ). Attempts o cells r) call
        (subst (λ (r : Result Evaluated Refusal).
        Attempts (evaluate_outcome (length cells) (reads (stood cells 0 m))) cells r) (sym e)
        (attempts_concluded few cells m g.fit (omega (arith, long))))
