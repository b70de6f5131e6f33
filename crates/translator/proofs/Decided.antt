-- The contract of `translate` decides its answer and every lent byte (document 01, 'What the contracts owe').
--     case_of         the case that number and values tell
--     same_answer    two answers with the same number and values are equal
--     decided        two outcomes that the contract allows are equal, answer and bytes
use Rattle.std.specs.Prelude.{Result, Ok, Err}
use Prim.Native.Nat.{ℕ}
use mathlib.Core.List.{List, [], ◌∷◌}
use mathlib.Core.Path.{◌≡◌, refl, ap, sym, ◌∙◌}
use Rattle.codes.specs.Refusals.{refusal}
use Rattle.codes.specs.declared.refusals.Reason.{Reason}
use Rattle.codes.specs.declared.refusals.Refusal.{Refusal}
use Rattle.meaning.specs.Calls.{Answer, gives, refused, translate_call}
use Rattle.codes.proofs.Reasons.{reason_of, reason_is}
use Rattle.translator.specs.Answers.{answered}
use Rattle.translator.specs.declared.Translated.{Translated}

unfoldable case_of : Answer → Result Translated Refusal
case_of (gives []) = Ok (record { operators = 0; bytes = 0 })
case_of (gives (n ∷ [])) = Ok (record { operators = n; bytes = 0 })
case_of (gives (n ∷ m ∷ ms)) = Ok (record { operators = n; bytes = m })
case_of (refused k p) = Err (refusal (reason_of k) p)

case_is : (a : Result Translated Refusal) → case_of (answered a) ≡ a
unfolding case_of answered
case_is (Ok t) = refl
case_is (Err r) = ap (λ (k : Reason). Err (refusal k r.place)) (reason_is r.reason)

pub same_answer : (a b : Result Translated Refusal) → answered a ≡ answered b → a ≡ b
same_answer a b e = sym (case_is a) ∙ ap case_of e ∙ case_is b

module _ (query : List ℕ) (lent : ℕ) where
  abbrev Allowed : Result Translated Refusal → List ℕ → Type 0
  Allowed a xs = (answered a ≡ (translate_call query lent).answer) × (xs ≡ (translate_call query lent).left)

  pub decided :
      (a b : Result Translated Refusal) (xs ys : List ℕ) → Allowed a xs → Allowed b ys → (a ≡ b) × (xs ≡ ys)
  decided a b xs ys h k = (same_answer a b (h.0 ∙ sym k.0), h.1 ∙ sym k.1)
