-- `sum_of` meets its contract: the sum stays below its modulus.
use Rattle.std.proofs.Common.{◌<◌}
use Rattle.cases.proofs.sum_of.Given as goal

abbrev pub invariant-loop-cell : goal.invariant-loop-cell
invariant-loop-cell g l = l.sum < 1000003
