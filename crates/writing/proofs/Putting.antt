-- Laws of the functions that write: a plan is written operator by operator.
--     pens_operator, pens_operators   an operator in front of others, and operators one after another
use Prim.Native.Nat.{ℕ}
use mathlib.Core.Path.{◌≡◌, refl, sym, ap, ◌∙◌}
use mathlib.Core.List.{List, [], ◌∷◌, ◌++◌, append_assoc}
use Rattle.laws.specs.Lists.{gather}
use Rattle.meaning.specs.Plan.{Op}
use Rattle.meaning.specs.Written.{operator_bytes, written}
use Rattle.pen.specs.Penned.{Pens}
use Rattle.pen.proofs.Putting.{pens_more, pens_as}

pub pens_operator :
    (o : Op) (os : List Op) {at m n : ℕ} {before between after : List ℕ} → Pens at (operator_bytes o) before between m →
    Pens m (written os) between after n → Pens at (written (o ∷ os)) before after n
unfolding written gather
pens_operator o os p q = pens_more p q

written_append : (os ps : List Op) → written (os ++ ps) ≡ written os ++ written ps
unfolding written gather
written_append [] ps = refl
written_append (o ∷ os) ps =
    ap (λ (l : List ℕ). operator_bytes o ++ l) (written_append os ps)
    ∙ sym (append_assoc (operator_bytes o) (written os) (written ps))

pub pens_operators :
    (os ps : List Op) {at m n : ℕ} {before between after : List ℕ} → Pens at (written os) before between m →
    Pens m (written ps) between after n → Pens at (written (os ++ ps)) before after n
pens_operators os ps p q = pens_as (sym (written_append os ps)) (pens_more p q)
