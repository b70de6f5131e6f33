-- `truth_from` meets its contract: an integer that is alone is true unless it is 0.
use mir.Syntax.{w32}
use mir.Val.{SFits}
use mir.Facts.{to_z-of_z}
use mathlib.Core.Path.{◌∙◌, ap}
use Rattle.items.specs.Answers.{judged}
use Rattle.items.proofs.Cases.{truth_one}
use borrow.Author.Rules.{rules}
use Rattle.items.proofs.truth_from.Goals as goal

pub returns-in-Integer : goal.returns-in-Integer
returns-in-Integer c =
    let narrow : SFits w32 c.in-Integer.z = search rules in
    ap judged c.then_some-in-Integer.ensures
    ∙ truth_one _ _ _ _ _ c.in-Integer.is (to_z-of_z narrow) c.equal.ensures
