-- `hand_out` meets its contract: the query check's refusals, then 8, then the records.
use Rattle.std.proofs.lemmas.Result.{err_from_is_err_and}
use Rattle.queries.proofs.Callers.{check_reads, check_refuses}
use Rattle.reader.proofs.Concluding.{concludes_refused, concludes_longer, concludes_fits}
use Rattle.reader.proofs.hand_out.Goals as goal

pub returns-in_err-records : goal.returns-in_err-records
returns-in_err-records c =
    let p = err_from_is_err_and c.from_residual.result c.from_residual.ensures.1 in
    rw (p.1, p.2)
    (concludes_refused c.args.bytes.now c.args.query.now _
    (check_refuses _ _ c.check.ensures _ c.in_err-records.was))

pub returns-then-query-bytes : goal.returns-then-query-bytes
returns-then-query-bytes c =
    let (r, e, n) = check_reads _ _ c.check.ensures _ c.in_ok-records.was in
    concludes_longer _ _ r e c.if-query-bytes.true

pub returns : goal.returns
returns c =
    let (r, e, n) = check_reads _ _ c.check.ensures _ c.in_ok-records.was in
    concludes_fits _ _ r e _ _ n c.if-query-bytes.false c.put_word.ensures
