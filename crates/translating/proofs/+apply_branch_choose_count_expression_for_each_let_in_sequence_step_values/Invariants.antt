-- How the depth left falls: from a record to its operands, and from a rule to what it translates.
use Prim.Native.Nat.{◌+◌, ◌*◌}
use Rattle.translating.proofs.+apply_branch_choose_count_expression_for_each_let_in_sequence_step_values.Given as goal

abbrev pub decreases-apply : goal.decreases-apply
decreases-apply l = 3 * l.depth + 2

abbrev pub decreases-branch : goal.decreases-branch
decreases-branch l = 3 * l.depth + 1

abbrev pub decreases-choose : goal.decreases-choose
decreases-choose l = 3 * l.depth + 2

abbrev pub decreases-count : goal.decreases-count
decreases-count l = 3 * l.depth + 2

abbrev pub decreases-expression : goal.decreases-expression
decreases-expression l = 3 * l.depth

abbrev pub decreases-for_each : goal.decreases-for_each
decreases-for_each l = 3 * l.depth + 2

abbrev pub decreases-let_in : goal.decreases-let_in
decreases-let_in l = 3 * l.depth + 2

abbrev pub decreases-sequence : goal.decreases-sequence
decreases-sequence l = 3 * l.depth + 2

abbrev pub decreases-step : goal.decreases-step
decreases-step l = 3 * l.depth + 2

abbrev pub decreases-values : goal.decreases-values
decreases-values l = 3 * l.depth + 2
