-- `judging::judge` meets its contract: one item, or the same one twice.
use mathlib.Core.Path.{sym, ap₂, ◌∙◌}
use mathlib.Core.Bool.{Bool, cond}
use mathlib.Core.List.{[], ◌∷◌}
use lib.IntN.{ℤ}
use mir.Facts.{to_z-of_z}
use Rattle.meaning.specs.World as World
use borrow.Author.Rules.{rules}
use Rattle.judging.proofs.judge.Goals as goal

pub returns-then-alone : goal.returns-then-alone
returns-then-alone c =
    c.truth.ensures
    ∙ ap₂ (λ (z : ℤ) (b : Bool). World.truth (z ∷ cond b [] (z ∷ []))) (to_z-of_z c.ranges.item)
    (sym c.if-alone.true)

pub returns : goal.returns
returns c =
    c.truth-2.ensures
    ∙ ap₂ (λ (z : ℤ) (b : Bool). World.truth (z ∷ cond b [] (z ∷ []))) (to_z-of_z c.ranges.item)
    (sym c.if-alone.false)
