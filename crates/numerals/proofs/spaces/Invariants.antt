-- `numerals::spaces` meets its contract. The invariant: behind the spaces of what is left stands what stands behind
-- the spaces of the whole.
use mathlib.Core.Path.{◌≡◌}
use lib.ListN.{drop}
use Rattle.numerals.specs.Texts.{drop_spaces}
use Rattle.numerals.proofs.spaces.Given as goal

abbrev pub invariant-loop-i : goal.invariant-loop-i
invariant-loop-i l = drop_spaces (drop l.i l.text) ≡ drop_spaces (drop l.at l.text)
