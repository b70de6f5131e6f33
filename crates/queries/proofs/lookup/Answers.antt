-- `lookup` meets its contract, by the flag.
use mathlib.Core.Path.{sym, ◌∙◌}
use Rattle.laws.specs.Attempt.{unless}
use Rattle.queries.specs.Answers.{walked}
use Rattle.queries.proofs.Walking.{walk_refused}
use Rattle.queries.proofs.lookup.Goals as goal

pub returns-then-flag : goal.returns-then-flag
unfolding walked unless
returns-then-flag c =
    rw (sym c.flag.ensures ∙ c.if-flag.true)

pub returns-else-flag : goal.returns-else-flag
unfolding unless
returns-else-flag c =
    rw (sym c.flag.ensures ∙ c.if-flag.false) (walk_refused _ _ _ c.refused.ensures)
