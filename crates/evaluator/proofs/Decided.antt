-- The contract of `evaluate` decides its answer and every lent cell (document 01, 'What the contracts owe').
--     case_of         the case that number and values tell
--     same_answer    two answers with the same number and values are equal
--     decided        two outcomes that the contract allows are equal, answer and cells
use Rattle.std.specs.Prelude.{Result, Ok, Err}
use Prim.Native.Nat.{ℕ}
use mathlib.Core.List.{List, [], ◌∷◌}
use mathlib.Core.Path.{◌≡◌, refl, ap, sym, ◌∙◌}
use lib.IntN.{ℤ}
use Rattle.codes.specs.Refusals.{refusal}
use Rattle.codes.specs.declared.refusals.Reason.{Reason}
use Rattle.codes.specs.declared.refusals.Refusal.{Refusal}
use Rattle.codes.proofs.Reasons.{reason_of, reason_is}
use Rattle.meaning.specs.Calls.{Answer, gives, refused, evaluate_call}
use Rattle.evaluator.specs.Answers.{answered}
use Rattle.evaluator.specs.declared.Evaluated.{Evaluated}

unfoldable case_of : Answer → Result Evaluated Refusal
case_of (gives []) = Ok (record { items = 0; count = 0 })
case_of (gives (n ∷ [])) = Ok (record { items = n; count = 0 })
case_of (gives (n ∷ k ∷ ks)) = Ok (record { items = n; count = k })
case_of (refused k p) = Err (refusal (reason_of k) p)

case_is : (a : Result Evaluated Refusal) → case_of (answered a) ≡ a
unfolding case_of answered
case_is (Ok e) = refl
case_is (Err r) = ap (λ (k : Reason). Err (refusal k r.place)) (reason_is r.reason)

pub same_answer : (a b : Result Evaluated Refusal) → answered a ≡ answered b → a ≡ b
same_answer a b e = sym (case_is a) ∙ ap case_of e ∙ case_is b

module _ (query doc : List ℕ) (lent : ℕ) where
  abbrev Allowed : Result Evaluated Refusal → List ℤ → Type 0
  Allowed a xs = (answered a ≡ (evaluate_call query doc lent).answer) × (xs ≡ (evaluate_call query doc lent).left)

  pub decided :
      (a b : Result Evaluated Refusal) (xs ys : List ℤ) → Allowed a xs → Allowed b ys → (a ≡ b) × (xs ≡ ys)
  decided a b xs ys h k = (same_answer a b (h.0 ∙ sym k.0), h.1 ∙ sym k.1)
