-- `if_tail` meets its contract: one operator after another.
use borrow.Author.Rules.{rules}
use mathlib.Core.Path.{refl}
use Rattle.writing.specs.Listed.{columns_of, keys_of}
use Rattle.adding.specs.Ruled.{operator_of}
use Rattle.scopes.specs.Choices.{choice}
use Rattle.scopes.proofs.if_tail.Goals as goal

pub returns : goal.returns
unfolding choice operator_of columns_of keys_of
returns c =
    record { wrote = c.add-p.ensures; table = refl; after = refl }
