-- `second_told` meets its contract: after 6 the evaluator is not asked, else its answer and cells.
use mathlib.Core.Path.{◌≡◌}
use Rattle.codes.specs.declared.refusals.Reason.TheVariants as Reason
use Rattle.verdicts.specs.Compared.{told_refusal}
use Rattle.answers.proofs.Keeping.{not_asked, asked_given, asked_refused}
use borrow.Author.Rules.{rules}
use Rattle.answers.proofs.second_told.Goals as goal
use Rattle.answers.proofs.second_told.Goals.{in_default-via-in-Err+else-eq, in_default-via-in_default}

pub returns-in-Err : goal.returns-in-Err
returns-in-Err c =
    let full : c.in-Err.refusal.reason ≡ Reason.Room = search rules in
    let tells : c.into.result ≡ told_refusal c.in-Err.refusal = rw c.in-Err.is at c.into.ensures in
    not_asked _ _ _ c.args.work.now c.args.query.now c.args.doc.now c.in-Err.is full tells

pub returns-in_default : goal.returns-in_default
returns-in_default c =
    elim c.in_default.branch [
      | in_default-via-in-Err+else-eq w ↦
          let full : w.in-Err.refusal.reason ≡ Reason.Room → ⊥ = search rules in
          asked_refused _ _ _ _ _ _ c.evaluation_told.ensures c.evaluate.ensures.0 c.evaluate.ensures.1 _ _ w.in-Err.is full
      | in_default-via-in_default w ↦
          asked_given _ _ _ _ _ _ c.evaluation_told.ensures c.evaluate.ensures.0 c.evaluate.ensures.1 _ _ w.in_default.is
    ]
