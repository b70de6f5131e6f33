-- `planned` meets its contract: the query check's refusals, then what the whole plan decides.
use Rattle.std.proofs.lemmas.Result.{err_from_is_err_and}
use mathlib.Core.Path.{refl}
use lib.ListN.{length}
use Rattle.queries.proofs.Callers.{check_reads, check_refuses}
use Rattle.translator.specs.Answers.{answered}
use Rattle.translator.proofs.Concluding.{refusal_answer, refusal_left, call_refused, call_whole}
use Rattle.translator.proofs.Concluding.{call_concludes}
use Rattle.translator.proofs.planned.Goals as goal

pub returns-in_err-check : goal.returns-in_err-check
unfolding answered
returns-in_err-check c =
    let bs = c.args.query.now in
    let x = c.args.plan.now in
    let r = c.in_err-check.field-0.0 in
    let o = call_refused bs (length x) _ _ (check_refuses bs c.check.result c.check.ensures r c.in_err-check.was) in
    let p = err_from_is_err_and c.from_residual.result c.from_residual.ensures.1 in
    rw (p.1, p.2) (refusal_answer _ _ _ _ o _ refl, refusal_left _ _ _ _ o x _ refl refl)

pub whole-requires : goal.whole-requires
whole-requires c =
    let bs = c.args.query.now in
    let (r, e, n) = check_reads bs c.check.result c.check.ensures _ c.in_ok-check.was in
    call_whole bs r e

pub returns : goal.returns
returns c =
    let bs = c.args.query.now in
    let (r, e, n) = check_reads bs c.check.result c.check.ensures _ c.in_ok-check.was in
    call_concludes bs c.args.plan.now _ r _ e c.whole.ensures
