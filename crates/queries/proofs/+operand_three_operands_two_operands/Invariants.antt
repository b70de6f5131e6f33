-- The query check's recursion follows `walk`: the depth left falls from a record to its operands.
use Prim.Native.Nat.{◌+◌, ◌*◌}
use Rattle.queries.proofs.+operand_three_operands_two_operands.Given as goal

abbrev pub decreases-operand : goal.decreases-operand
decreases-operand l = 3 * l.depth

abbrev pub decreases-three_operands : goal.decreases-three_operands
decreases-three_operands l = 3 * l.depth + 2

abbrev pub decreases-two_operands : goal.decreases-two_operands
decreases-two_operands l = 3 * l.depth + 1
