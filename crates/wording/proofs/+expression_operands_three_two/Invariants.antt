-- The depth left falls from a record to its operands.
use Prim.Native.Nat.{◌+◌, ◌*◌}
use Rattle.wording.proofs.+expression_operands_three_two.Given as goal

abbrev pub decreases-expression : goal.decreases-expression
decreases-expression l = 4 * l.depth

abbrev pub decreases-operands : goal.decreases-operands
decreases-operands l = 4 * l.depth + 3

abbrev pub decreases-three : goal.decreases-three
decreases-three l = 4 * l.depth + 2

abbrev pub decreases-two : goal.decreases-two
decreases-two l = 4 * l.depth + 1
