-- `number` meets its contract: the number of items is added, where the room suffices.
use Prim.Native.Nat.{ℕ, ◌+◌, ◌≤◌, ◌<◌, ◌^◌}
use mathlib.Core.Path.{◌≡◌, sym, ◌∙◌, ap}
use mathlib.Core.List.{List, [], ◌∷◌}
use native.Mathlib.Omega.{arith}
use borrow.Author.Rules.{sfits_of}
use mir.Syntax.{w64}
use mir.Val.{to_z, of_z}
use mir.Facts.{to_z-of_z}
use lib.IntN.{ℤ, pos}
use lib.ListN.{length}
use Rattle.std.specs.Prelude.{Ok}
use Rattle.laws.specs.Rows.{row}
use Rattle.laws.proofs.Rows.{length_row}
use Rattle.meaning.specs.Counted.{adding}
use Rattle.stack.specs.Moves.{counted, raised}
use Rattle.stack.proofs.Exits.{err_is}
use Rattle.stack.proofs.Leaving.{leaves_items, leaves_raised, leaves_refused, leaves_as}
use Rattle.stack.proofs.number.Goals as goal

-- the number of items, as the machine has it
numbered :
    (cells : List ℤ) (top l k room at : ℕ) → top + l ≤ length cells → l < 2 ^ 63 →
    raised k (adding room at 0 (to_z w64 (of_z w64 (pos l)) ∷ []))
    ≡ raised k (adding room at 0 (pos (length (row cells top l)) ∷ []))
numbered cells top l k room at h f =
    ap (λ (z : ℤ). raised k (adding room at 0 (z ∷ [])))
    (to_z-of_z {w = w64} (sfits_of (omega arith)) ∙ ap pos (sym (length_row cells top l h)))

pub overflow_cast-operand : goal.overflow_cast-operand
overflow_cast-operand c =
    sfits_of (omega (arith, c.requires.0.lent))

pub returns-in_err-added : goal.returns-in_err-added
unfolding counted
returns-in_err-added c =
    leaves_items _ _ _ _ _ _ _
    (leaves_as _ _ _ _ _ _ _ _ _
    (numbered _ _ _ _ _ _ (omega (arith, c.requires.0.lent)) (omega (arith, c.requires.0.lent)))
    (sym (err_is _ _ c.from_residual.ensures.1)) (leaves_refused _ _ _ _ _ _ _ _ c.in_err-added.ensures))

pub returns : goal.returns
unfolding counted
returns c =
    leaves_items _ _ _ _ _ _ _
    (leaves_as _ _ _ _ _ _ _ _ _
    (numbered _ _ _ _ _ _ (omega (arith, c.requires.0.lent)) (omega (arith, c.requires.0.lent)))
    (sym (ap Ok c.raise.ensures)) (leaves_raised _ _ _ _ _ _ _ _ (omega arith) c.in_ok-added.ensures))
