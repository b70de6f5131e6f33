-- The contract of `read` decides its answer and every lent byte (document 02, L1).
--     reason_of       the reason of a number
--     case_of         the case that number and values tell
--     same_answer    two answers with the same number and values are equal
--     decided        two outcomes that the contract allows are equal, answer and bytes
use Rattle.std.specs.Prelude.{Result, Ok, Err}
use Prim.Native.Nat.{ℕ}
use mathlib.Core.Bool.{cond}
use mathlib.Core.List.{List, [], ◌∷◌}
use mathlib.Core.Path.{◌≡◌, refl, ap, sym, ◌∙◌}
use lib.Dec.{eqb}
use Rattle.codes.specs.Refusals.{number_of, refusal}
use Rattle.codes.specs.declared.refusals.Reason.{Reason}
use Rattle.codes.specs.declared.refusals.Refusal.{Refusal}
use Rattle.meaning.specs.Calls.{Answer, gives, refused, Outcome}
use Rattle.grammar.specs.Typed.{TypedCall}
use Rattle.parsing.proofs.Theorems.{one_outcome}
use Rattle.reader.specs.Answers.{answered, outcome}
use Rattle.reader.specs.declared.Typed.{Typed}

abbrev reason_of : ℕ → Reason
reason_of k =
    cond (eqb k 1) Reason.Record
    (cond (eqb k 2) Reason.Excess
    (cond (eqb k 3) Reason.Unbound
    (cond (eqb k 4) Reason.Catalogue
    (cond (eqb k 5) Reason.Plan
    (cond (eqb k 6) Reason.Room
    (cond (eqb k 7) Reason.Failure (cond (eqb k 8) Reason.Longer Reason.Outside)))))))

reason_is : (r : Reason) → reason_of (number_of r) ≡ r
reason_is Reason.Record = refl
reason_is Reason.Excess = refl
reason_is Reason.Unbound = refl
reason_is Reason.Catalogue = refl
reason_is Reason.Plan = refl
reason_is Reason.Room = refl
reason_is Reason.Failure = refl
reason_is Reason.Longer = refl
reason_is Reason.Outside = refl

unfoldable case_of : Answer → Result Typed Refusal
case_of (gives []) = Ok (record { records = 0; bytes = 0 })
case_of (gives (n ∷ [])) = Ok (record { records = n; bytes = 0 })
case_of (gives (n ∷ m ∷ ms)) = Ok (record { records = n; bytes = m })
case_of (refused k p) = Err (refusal (reason_of k) p)

case_is : (a : Result Typed Refusal) → case_of (answered a) ≡ a
unfolding case_of answered
case_is (Ok t) = refl
case_is (Err r) = ap (λ (k : Reason). Err (refusal k r.place)) (reason_is r.reason)

pub same_answer : (a b : Result Typed Refusal) → answered a ≡ answered b → a ≡ b
same_answer a b e = sym (case_is a) ∙ ap case_of e ∙ case_is b

pub decided : (text : List ℕ) (lent : ℕ) (a b : Result Typed Refusal) (xs ys : List ℕ)
    → TypedCall text lent (outcome a xs)
    → TypedCall text lent (outcome b ys) → (a ≡ b) × (xs ≡ ys)
decided text lent a b xs ys h k =
    let e = one_outcome text lent (outcome a xs) (outcome b ys) h k in
    (same_answer a b (ap (λ (o : Outcome ℕ). o.answer) e), ap (λ (o : Outcome ℕ). o.left) e)
