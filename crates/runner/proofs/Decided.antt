-- The contract of `run` decides its answer and every lent cell (document 01, 'What the contracts owe').
--     case_of         the case that number and values tell
--     same_answer    two answers with the same number and values are equal
--     decided        two outcomes that the contract allows are equal, answer and cells
use Rattle.std.specs.Prelude.{Result, Ok, Err}
use Prim.Native.Nat.{ℕ}
use mathlib.Core.Bool.{cond}
use mathlib.Core.List.{List, [], ◌∷◌}
use mathlib.Core.Path.{◌≡◌, refl, ap, sym, ◌∙◌}
use lib.Dec.{eqb}
use lib.IntN.{ℤ}
use Rattle.codes.specs.Refusals.{number_of, refusal}
use Rattle.codes.specs.declared.refusals.Reason.{Reason}
use Rattle.codes.specs.declared.refusals.Reason.TheVariants.{Record, Excess, Unbound, Catalogue, Plan, Room}
use Rattle.codes.specs.declared.refusals.Reason.TheVariants.{Failure, Longer, Outside}
use Rattle.codes.specs.declared.refusals.Refusal.{Refusal}
use Rattle.meaning.specs.Calls.{Answer, gives, refused, run_call}
use Rattle.running.specs.declared.Tables.{Tables}
use Rattle.runner.specs.Answers.{answered}

-- the reason that a number tells
unfoldable reason_of : ℕ → Reason
reason_of n =
    cond (eqb n 1) Record (cond (eqb n 2) Excess (cond (eqb n 3) Unbound (cond (eqb n 4) Catalogue
    (cond (eqb n 5) Plan (cond (eqb n 6) Room (cond (eqb n 7) Failure (cond (eqb n 8) Longer Outside)))))))

reason_is : (r : Reason) → reason_of (number_of r) ≡ r
unfolding reason_of
reason_is Record = refl
reason_is Excess = refl
reason_is Unbound = refl
reason_is Catalogue = refl
reason_is Plan = refl
reason_is Room = refl
reason_is Failure = refl
reason_is Longer = refl
reason_is Outside = refl

abbrev tables : ℕ → ℕ → ℕ → Result Tables Refusal
tables s r f = Ok (record { start = s; rows = r; filled = f })

unfoldable case_of : Answer → Result Tables Refusal
case_of (gives []) = tables 0 0 0
case_of (gives (s ∷ [])) = tables s 0 0
case_of (gives (s ∷ r ∷ [])) = tables s r 0
case_of (gives (s ∷ r ∷ f ∷ fs)) = tables s r f
case_of (refused n p) = Err (refusal (reason_of n) p)

case_is : (a : Result Tables Refusal) → case_of (answered a) ≡ a
unfolding case_of answered
case_is (Ok t) = refl
case_is (Err r) = ap (λ (n : Reason). Err (refusal n r.place)) (reason_is r.reason)

pub same_answer : (a b : Result Tables Refusal) → answered a ≡ answered b → a ≡ b
same_answer a b e = sym (case_is a) ∙ ap case_of e ∙ case_is b

module _ (plan doc : List ℕ) (lent : ℕ) where
  abbrev Allowed : Result Tables Refusal → List ℤ → Type 0
  Allowed a xs = (answered a ≡ (run_call plan doc lent).answer) × (xs ≡ (run_call plan doc lent).left)

  pub decided : (a b : Result Tables Refusal) (xs ys : List ℤ) → Allowed a xs → Allowed b ys → (a ≡ b) × (xs ≡ ys)
  decided a b xs ys h k = (same_answer a b (h.0 ∙ sym k.0), h.1 ∙ sym k.1)
