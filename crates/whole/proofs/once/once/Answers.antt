-- `whole::once::once` meets its contract: it fails where a cell is repeated, and lays the table where none is.
use mathlib.Core.Path.{sym, ◌∙◌}
use native.Mathlib.Omega.{arith}
use borrow.Author.Tests.{not-true, not-false}
use Rattle.tables.specs.Layout.{Inside}
use Rattle.tables.proofs.Promise.{owes_provided, owes_refused}
use borrow.Author.Rules.{rules}
use Rattle.whole.proofs.once.once.Goals as goal

pub unrepeated-requires : goal.unrepeated-requires
unfolding Inside
unrepeated-requires c =
    omega arith

pub returns-then-not-unrepeated : goal.returns-then-not-unrepeated
returns-then-not-unrepeated c =
    owes_refused _ _ _ _ _ _ (sym c.unrepeated.ensures ∙ c.if-not-unrepeated.true)

pub returns : goal.returns
returns c =
    owes_provided _ _ _ _ _ _ _ _
    (sym c.unrepeated.ensures ∙ c.if-not-unrepeated.false)
    c.again.ensures
