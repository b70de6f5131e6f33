-- `rows::search::minus` meets its contract.
use mathlib.Core.Path.{sym, ◌∙◌}
use native.Mathlib.Omega.{arith}
use Rattle.tables.specs.Layout.{Inside}
use Rattle.tables.proofs.Promise.{owes_then, owes_else, none_laid}
use Rattle.rows.proofs.search.minus.Goals as goal

pub has_equal-requires : goal.has_equal-requires
unfolding Inside
has_equal-requires c =
    (omega arith, omega arith, c.requires.4)

pub returns-then-has_equal : goal.returns-then-has_equal
returns-then-has_equal c =
    owes_then _ _ _ _ _ _ _ _ _ (sym c.has_equal.ensures ∙ c.if-has_equal.true)
    (none_laid _ _ _ _ (omega arith))

pub returns-else-has_equal : goal.returns-else-has_equal
returns-else-has_equal c =
    owes_else _ _ _ _ _ _ _ _ _
    (sym c.has_equal.ensures ∙ c.if-has_equal.false)
    c.repeat.ensures
