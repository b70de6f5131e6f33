-- `whole::one` meets its contract.
use mathlib.Core.Path.{refl}
use mathlib.Core.List.{[], ◌∷◌}
use lib.IntN.{pos}
use native.Mathlib.Omega.{arith}
use Rattle.laws.proofs.Rows.{set_laid}
use Rattle.tables.proofs.Promise.{one_full, one_laid}
use borrow.Author.Rules.{rules}
use Rattle.whole.proofs.one.Goals as goal

pub returns-then-room-at : goal.returns-then-room-at
returns-then-room-at c =
    one_full _ _ 1 (pos 1 ∷ []) _ refl (omega arith)

pub returns : goal.returns
returns c =
    one_laid _ _ _ _ _ refl _ (omega arith) (set_laid _ _ _ (omega arith))
