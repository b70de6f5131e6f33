-- `gathering::column_of` meets its contract.
use mathlib.Core.Path.{sym, ap}
use Rattle.gathering.specs.Gathered.{column_of}
use Rattle.gathering.proofs.column_of.Goals as goal

pub returns-in-Count : goal.returns-in-Count
unfolding column_of
returns-in-Count c =
    sym (ap column_of c.in-Count.is)

pub returns-in-Truth : goal.returns-in-Truth
unfolding column_of
returns-in-Truth c =
    sym (ap column_of c.in-Truth.is)

pub returns-in-Step : goal.returns-in-Step
unfolding column_of
returns-in-Step c =
    sym (ap column_of c.in-Step.is)
