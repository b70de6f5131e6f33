-- `arith` meets its contract, by what the two cells hold.
use mathlib.Core.Path.{◌∙◌, ap, ap₂}
use mir.Syntax.{w32}
use mir.Val.{SFits}
use mir.Facts.{to_z-of_z}
use Rattle.meaning.specs.World as World
use Rattle.meaning.specs.World.{integer_of}
use Rattle.items.proofs.Cases.{arith_first, arith_second, arith_both}
use borrow.Author.Rules.{rules}
use Rattle.items.proofs.arith.Goals as goal

pub returns-in_err-integer_of : goal.returns-in_err-integer_of
returns-in_err-integer_of c =
    let a-is = ap integer_of (to_z-of_z c.ranges.a) in
    rw c.from_residual.ensures (arith_first _ _ _ (c.in_err-integer_of.ensures ∙ a-is))

pub returns-in_err-integer_of-2 : goal.returns-in_err-integer_of-2
returns-in_err-integer_of-2 c =
    let a-is = ap integer_of (to_z-of_z c.ranges.a) in
    let b-is = ap integer_of (to_z-of_z c.ranges.b) in
    rw c.from_residual-in_err-integer_of-2.ensures
    (arith_second _ _ _ _ (c.in_ok-integer_of.ensures ∙ a-is) (c.in_err-integer_of-2.ensures ∙ b-is))

pub returns : goal.returns
returns c =
    let a-is = ap integer_of (to_z-of_z c.ranges.a) in
    let b-is = ap integer_of (to_z-of_z c.ranges.b) in
    let x-fits : SFits w32 c.in_ok-integer_of.field-0 = search rules in
    let y-fits : SFits w32 c.in_ok-integer_of-2.field-0 = search rules in
    c.function.ensures
    ∙ ap₂ (World.function _) (to_z-of_z x-fits) (to_z-of_z y-fits)
    ∙ arith_both _ _ _ _ _ (c.in_ok-integer_of.ensures ∙ a-is) (c.in_ok-integer_of-2.ensures ∙ b-is)
