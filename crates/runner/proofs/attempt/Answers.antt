-- `runner::attempt` meets its contract: plan, then catalogue, then work.
use Rattle.std.proofs.lemmas.Result.{err_from_is_err_and}
use Rattle.runner.proofs.Calling.{accepted, known_rows, bad_plan_leaves, bad_catalogue_leaves}
use Rattle.runner.proofs.Calling.{stopped_leaves, run_leaves}
use Rattle.runner.proofs.attempt.Goals as goal

pub returns-in_err-check : goal.returns-in_err-check
returns-in_err-check c =
    let p = err_from_is_err_and c.from_residual.result c.from_residual.ensures.1 in
    rw (p.1, p.2) (bad_plan_leaves _ _ _ _ c.in_err-check.ensures)

pub returns-in_err-rows : goal.returns-in_err-rows
returns-in_err-rows c =
    let r = c.from_residual-in_err-rows in
    let p = err_from_is_err_and r.result r.ensures.1 in
    rw (p.1, p.2) (bad_catalogue_leaves _ _ _ _ c.in_ok-check.ensures _ c.in_err-rows.ensures)

pub work_out-requires : goal.work_out-requires
work_out-requires c = (
  accepted _ c.args.doc.now c.args.work.now _ c.in_ok-check.ensures,
  known_rows _ _ c.args.work.now _ c.in_ok-check.ensures _ c.in_ok-rows.ensures,
)

pub returns-in_err-tables : goal.returns-in_err-tables
returns-in_err-tables c =
    let r = c.from_residual-in_err-tables in
    let p = err_from_is_err_and r.result r.ensures.1 in
    rw (p.1, p.2)
    (stopped_leaves _ _ _ _ c.in_ok-check.ensures _ c.in_ok-rows.ensures _ c.work_out.auto.work _
    c.in_err-tables.ensures)

pub returns : goal.returns
returns c =
    run_leaves _ _ _ _ c.in_ok-check.ensures _ c.in_ok-rows.ensures _ c.work_out.auto.work _ c.in_ok-tables.ensures
