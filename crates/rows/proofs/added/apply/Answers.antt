-- `rows::added::apply` meets its contract: the cell is worked out, and the row laid with it.
use Prim.Native.Nat.{ℕ, ◌+◌, ◌<◌}
use mathlib.Core.List.{List}
use mathlib.Core.Path.{◌≡◌, sym, ap, ap₂, ◌∙◌}
use native.Mathlib.Omega.{arith}
use lib.IntN.{ℤ, pos}
use lib.ListN.{get_or}
use mir.Syntax.{w64}
use mir.Facts.{to_z-of_z}
use mir.Val.{SFits}
use Rattle.laws.specs.Attempt.{Attempt}
use Rattle.laws.specs.Rows.{row}
use Rattle.codes.specs.declared.Function.{Function}
use Rattle.meaning.specs.Operators.{cell}
use Rattle.meaning.specs.World as World
use Rattle.items.specs.Answers.{tried}
use Rattle.tables.proofs.Promise.{owes_cell, owes_gone}
use Rattle.tables.proofs.Reading.{cell_read}
use borrow.Author.Rules.{rules}
use Rattle.rows.proofs.added.apply.Goals as goal

-- what is worked out from the cells that were read is worked out from the row's
worked :
    (o : Attempt ℤ) (f : Function) (x y : ℤ) (xs : List ℤ) (a w k d : ℕ) → o ≡ World.arith f x y →
    x ≡ get_or xs (a + k) (pos 0) → y ≡ get_or xs (a + d) (pos 0) → k < w → d < w →
    o ≡ World.arith f (cell (row xs a w) k) (cell (row xs a w) d)
worked o f x y xs a w k d e p q h i =
    e ∙ ap₂ (World.arith f) (p ∙ sym (cell_read xs a w k h)) (q ∙ sym (cell_read xs a w d i))

pub returns-in_err-z : goal.returns-in_err-z
returns-in_err-z c =
    let h = c.in_err-z.ensures in
    let is = worked _ _ _ _ _ _ _ _ _ c.arith-tried.ensures
    (to_z-of_z {w = w64} (record { sfits = c.arith-arg-1.given }))
    (to_z-of_z {w = w64} (record { sfits = c.arith-arg-2-1.given })) (omega arith) (omega arith) in
    owes_gone _ _ _ _ _ _ c.arith-tried.result c.in_err-z.field-0.0 c.from_residual.result c.from_residual.ensures.1
    h.value h.ok_part (sym is ∙ ap tried h.ok_part)

pub returns : goal.returns
returns c =
    let narrow : SFits w64 c.in_ok-z.z = search rules in
    let is = worked _ _ _ _ _ _ _ _ _ c.arith-tried.ensures
    (to_z-of_z {w = w64} (record { sfits = c.arith-arg-1.given }))
    (to_z-of_z {w = w64} (record { sfits = c.arith-arg-2-1.given })) (omega arith) (omega arith) in
    owes_cell _ _ _ _ _ _ _ _ _ _ (sym (ap tried c.in_ok-z.ensures.ok_part) ∙ is) (to_z-of_z narrow) c.attach.ensures
