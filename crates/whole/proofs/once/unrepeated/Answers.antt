-- `whole::once::unrepeated` meets its contract: what rises does not repeat.
use mathlib.Core.Path.{sym, ◌∙◌}
use Rattle.whole.proofs.Repeats.{rises_once}
use borrow.Author.Rules.{rules}
use Rattle.whole.proofs.once.unrepeated.Goals as goal

pub returns-then-rises : goal.returns-then-rises
returns-then-rises c =
    c.if-rises.true ∙ sym (rises_once _ (sym c.rises.ensures ∙ c.if-rises.true))
