-- `evaluate` meets its contract: the cells past the items are cleared. How many items are left is taken by its value.
use Prim.Native.Nat.{ℕ}
use mathlib.Core.Path.{◌≡◌, ap, ◌∙◌}
use native.Mathlib.Omega.{arith}
use lib.IntN.{pos}
use lib.ListN.{length, take}
use Rattle.laws.specs.Rows.{padded}
use Rattle.evaluator.specs.Answers.{standing}
use Rattle.evaluator.proofs.evaluate.Goals as goal

pub clear-requires : goal.clear-requires
clear-requires c = grind (arith, c.attempt-answer.ensures.within, c.items_left.ensures)

pub returns : goal.returns
returns c =
    let a = c.attempt-answer in
    let cells = a.new.work in
    let left : c.items_left.result ≡ standing a.result = grind arith in (
      a.ensures.answer,
      c.clear.ensures
          ∙ ap (λ (n : ℕ). padded (pos 0) (length cells) (take n cells)) left
          ∙ a.ensures.left,
    )
