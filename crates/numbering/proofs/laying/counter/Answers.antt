-- `numbering::laying::counter` meets its contract.
use mathlib.Core.Bool.{Bool}
use mathlib.Core.Path.{◌≡◌, sym, ◌∙◌}
use Prim.Native.Nat.{ℕ}
use Rattle.numbering.specs.Numbered.{counter_of}
use borrow.Author.Rules.{rules}
use Rattle.numbering.proofs.laying.counter.Goals as goal

counts : (c : ℕ) (b same : Bool) → b ≡ same → counter_of same c ≡ counter_of b c
counts c b same e = rw e

pub returns-then-in_group : goal.returns-then-in_group
returns-then-in_group c =
    counts _ _ _ (sym c.in_group.ensures ∙ c.if-in_group.true)

pub returns-else-in_group : goal.returns-else-in_group
returns-else-in_group c =
    counts _ _ _ (sym c.in_group.ensures ∙ c.if-in_group.false)
