-- `lay` meets its contract: the operator, then its entry in the directory. What the operator came to is taken by its
-- value: `unlaid`, `laid`.
use mathlib.Core.Path.{◌≡◌}
use native.Mathlib.Omega.{arith}
use Rattle.std.specs.Prelude.{Ok, Err}
use Rattle.directory.specs.Sound.{Served}
use Rattle.std.proofs.lemmas.Result.{err_from_is_err_and}
use Rattle.laying.specs.Goes.{Goes}
use Rattle.laying.proofs.Turning.{rows_fit, goes_on}
use Rattle.laying.proofs.lay.Goals as goal

pub returns-in_err-n : goal.returns-in_err-n
unfolding Goes
returns-in_err-n c =
    let p = err_from_is_err_and c.from_residual.result c.from_residual.ensures.1 in
    let unlaid : c.perform.result ≡ Err c.in_err-n.field-0.0 = grind arith in
    rw (p.1, p.2) (rw unlaid at c.perform.ensures)

pub width-w-requires : goal.width-w-requires
unfolding Served
width-w-requires c =
    (_, _, _, c.requires.listed_tables.0, c.requires.listed_tables.1)

pub overflow_mul-result : goal.overflow_mul-result
overflow_mul-result c =
    let laid : c.perform.result ≡ Ok c.in_ok-n.n = grind arith in
    omega (arith, c.requires.tables_bound.3, rows_fit _ _ _ _ _ _ _ (rw laid at c.perform.ensures) _ c.width-w.ensures)

pub overflow_add-result-2 : goal.overflow_add-result-2
overflow_add-result-2 c =
    let laid : c.perform.result ≡ Ok c.in_ok-n.n = grind arith in
    omega (arith, c.requires.tables_bound.3, rows_fit _ _ _ _ _ _ _ (rw laid at c.perform.ensures) _ c.width-w.ensures)

pub returns : goal.returns
returns c =
    let laid : c.perform.result ≡ Ok c.in_ok-n.n = grind arith in
    goes_on _ _ _ _ _ _ _ _ _ (rw laid at c.perform.ensures) _ c.width-w.ensures c.enter.ensures
