-- `found` meets its contract: 9 where the reader is stuck, else what the records decide.
use mathlib.Core.Path.{refl}
use native.Mathlib.Omega.{arith}
use Rattle.operands.proofs.Follows.{past_part, no_part}
use Rattle.reader.proofs.Concluding.{outside_call, inside_call, few}
use Rattle.reader.proofs.found.Goals as goal

pub slice_bounds-hand_out-end : goal.slice_bounds-hand_out-end
slice_bounds-hand_out-end c =
    omega (arith, (past_part c.expression.ensures c.in-Ok.is).within, c.expression.auto.query)

pub hand_out-requires : goal.hand_out-requires
hand_out-requires c = few c.args.text.now refl (past_part c.expression.ensures c.in-Ok.is)

pub returns-in-Ok : goal.returns-in-Ok
returns-in-Ok c =
    inside_call c.args.text.now refl (past_part c.expression.ensures c.in-Ok.is) _
    c.args.query.now _ c.hand_out.ensures

pub returns-in-Err : goal.returns-in-Err
returns-in-Err c =
    outside_call c.args.text.now c.args.query.now _ (no_part c.expression.ensures c.in-Err.is)
