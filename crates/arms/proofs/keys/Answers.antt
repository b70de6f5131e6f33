-- `operators::arms::keys` meets its contract: one column or two.
use Prim.Native.Nat.{ℕ}
use mathlib.Core.Path.{◌∙◌, ap, ap₂}
use mathlib.Core.List.{[], ◌∷◌}
use native.Mathlib.Omega.{arith}
use Rattle.arms.proofs.Keyed.{one_column, two_columns}
use borrow.Author.Rules.{rules}
use Rattle.arms.proofs.keys.Goals as goal

pub returns-then-n-eq1 : goal.returns-then-n-eq1
returns-then-n-eq1 c =
    let n = c.if-n-eq1.true in
    ap (λ (b : ℕ). b ∷ []) c.byte-first.ensures.0 ∙ one_column _ _ _ n (omega arith)

pub returns : goal.returns
returns c =
    ap₂ (λ (a b : ℕ). a ∷ b ∷ []) c.byte-first.ensures.0 c.byte.ensures.0
    ∙ two_columns _ _ _ (omega arith) (omega arith)
