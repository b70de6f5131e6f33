-- `whole` meets its contract: the query check's refusals, then the query's text, where it fits.
use Rattle.std.proofs.Common.{rules}
use Rattle.std.proofs.lemmas.Result.{err_from_is_err_and}
use Rattle.queries.proofs.Callers.{check_reads, check_refuses}
use Rattle.wording.proofs.Concluding.{whole_asked, concludes_refused, concludes_longer, concludes_fits}
use Rattle.wording.proofs.whole.Goals as goal

pub returns-in_err-check : goal.returns-in_err-check
returns-in_err-check c =
    let p = err_from_is_err_and c.from_residual.result c.from_residual.ensures.1 in
    rw (p.1, p.2)
    (concludes_refused c.args.query.now c.args.text.now _
    (check_refuses c.args.query.now c.check.result c.check.ensures _ c.in_err-check.was))

pub expression-spot-requires : goal.expression-spot-requires
expression-spot-requires c =
    let bs = c.args.query.now in
    let (r, e, n) = check_reads bs c.check.result c.check.ensures _ c.in_ok-check.was in
    whole_asked bs r (search rules) e

pub returns-then-text-bytes : goal.returns-then-text-bytes
returns-then-text-bytes c =
    let bs = c.args.query.now in
    let (r, e, n) = check_reads bs c.check.result c.check.ensures _ c.in_ok-check.was in
    concludes_longer bs c.args.text.now _ _ r e c.expression-spot.ensures c.if-text-bytes.true

pub returns : goal.returns
returns c =
    let bs = c.args.query.now in
    let (r, e, n) = check_reads bs c.check.result c.check.ensures _ c.in_ok-check.was in
    concludes_fits bs c.args.text.now _ _ r e c.expression-spot.ensures c.if-text-bytes.false
