-- `attempt` meets its contract: query, then catalogue, then work. What is concluded is taken by its value.
use mathlib.Core.Path.{refl}
use native.Mathlib.Omega.{arith}
use Rattle.meaning.specs.Calls.{room}
use Rattle.working_parts.proofs.Scoping.{scoped_nothing}
use Rattle.stack.proofs.Exits.{err_is}
use Rattle.evaluator.specs.Answers.{concluding}
use Rattle.evaluator.proofs.Calling.{call_refused, call_unsound, known_accepted, call_concluded}
use Rattle.evaluator.proofs.attempt.Goals as goal

pub returns-in_err-check : goal.returns-in_err-check
returns-in_err-check c =
    rw (err_is _ _ c.from_residual.ensures.1) (call_refused _ _ _ _ refl _ c.in_err-check.ensures)

pub returns-in_err-rows : goal.returns-in_err-rows
returns-in_err-rows c =
    rw (err_is _ _ c.from_residual-in_err-rows.ensures.1)
    (call_unsound _ _ _ _ refl _ c.in_ok-check.ensures _ c.in_err-rows.ensures)

pub work_out-answer-requires : goal.work_out-answer-requires
unfolding room
work_out-answer-requires c = (
  known_accepted c.args.doc.now _ c.in_ok-rows.ensures,
  scoped_nothing,
  record { low = omega arith; lent = omega (arith, c.room_of-room.ensures) },
)

pub returns : goal.returns
unfolding concluding room
returns c =
    call_concluded _ _ _ _ c.work_out-answer.auto.work _ c.in_ok-check.ensures _ _ _ _ _ c.in_ok-rows.ensures
    c.room_of-room.ensures (omega (arith, c.room_of-room.ensures)) c.work_out-answer.ensures (grind arith)
