-- `inner` meets its contract: a variable is bound, or nothing.
use Rattle.std.specs.Prelude.{ℕ, Option}
use mathlib.Core.Path.{sym, ◌∙◌, ap, subst}
use Rattle.working_parts.specs.Scopes.{Bindable, scoping}
use borrow.Author.Rules.{rules}
use Rattle.working_parts.proofs.inner.Goals as goal

pub bound-requires : goal.bound-requires
bound-requires c =
    subst Bindable c.in-Some.is c.requires

pub returns-in-None : goal.returns-in-None
unfolding scoping
returns-in-None c =
    search rules

pub returns-in-Some : goal.returns-in-Some
returns-in-Some c =
    let a = c.args in
    c.bound.ensures ∙ ap (λ (b : Option ℕ). scoping a.scope b a.start a.n)
    (sym c.in-Some.is)
