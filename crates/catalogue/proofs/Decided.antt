-- The contract of `check` decides its answer (document 01, 'What the contracts owe').
--     case_of         the case that number and values tell
--     same_answer    two answers with the same number and values are equal
--     decided        so are two answers that the contract allows
use Rattle.std.specs.Prelude.{Result, Ok, Err}
use mathlib.Core.List.{List, [], ◌∷◌}
use mathlib.Core.Path.{◌≡◌, refl, ap, sym, ◌∙◌}
use Prim.Native.Nat.{ℕ}
use Rattle.codes.specs.Refusals.{refusal}
use Rattle.codes.specs.declared.refusals.Reason.{Reason}
use Rattle.codes.specs.declared.refusals.Refusal.{Refusal}
use Rattle.codes.proofs.Reasons.{reason_of, reason_is}
use Rattle.meaning.specs.Calls.{Answer, gives, refused, catalogue_call}
use Rattle.catalogue.specs.Answers.{answered}

unfoldable case_of : Answer → Result ℕ Refusal
case_of (gives []) = Ok 0
case_of (gives (n ∷ ns)) = Ok n
case_of (refused k p) = Err (refusal (reason_of k) p)

case_is : (a : Result ℕ Refusal) → case_of (answered a) ≡ a
unfolding case_of answered
case_is (Ok n) = refl
case_is (Err r) = ap (λ (k : Reason). Err (refusal k r.place)) (reason_is r.reason)

pub same_answer : (a b : Result ℕ Refusal) → answered a ≡ answered b → a ≡ b
same_answer a b e = sym (case_is a) ∙ ap case_of e ∙ case_is b

pub decided :
    (doc : List ℕ) (a b : Result ℕ Refusal) → answered a ≡ catalogue_call doc → answered b ≡ catalogue_call doc → a ≡ b
decided doc a b h k = same_answer a b (h ∙ sym k)
