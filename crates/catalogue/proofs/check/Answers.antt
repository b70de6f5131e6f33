-- `check` meets its contract: the row checks refuse, or give the number of rows, and then the sizes decide.
use mathlib.Core.Path.{◌∙◌}
use Rattle.std.proofs.lemmas.Result.{err_from_is_err_and}
use Rattle.catalogue.proofs.Turns.{check_bad, check_on, check_rows}
use Rattle.catalogue.proofs.check.Goals as goal

pub returns-in_err-rows : goal.returns-in_err-rows
returns-in_err-rows c =
    let p = err_from_is_err_and c.from_residual.result c.from_residual.ensures.1 in
    rw (p.1, p.2) (check_bad c.args.doc.now _ c.in_err-rows.ensures)

pub sizes_exact-requires : goal.sizes_exact-requires
sizes_exact-requires c =
    check_rows c.args.doc.now c.in_ok-rows.rows c.in_ok-rows.ensures

pub returns : goal.returns
returns c =
    c.sizes_exact.ensures ∙ check_on c.args.doc.now c.in_ok-rows.rows c.in_ok-rows.ensures
