-- `whole::union` meets its contract: one table, then the other.
use mathlib.Core.Path.{refl}
use native.Mathlib.Omega.{arith}
use Rattle.tables.specs.Layout.{Inside}
use Rattle.tables.proofs.Promise.{handed_up}
use Rattle.tables.proofs.Laying.{counted_fits}
use Rattle.tables.proofs.Standing.{laid_fits, length_stands}
use Rattle.whole.proofs.Copies.{second_stands, both_first, both_second, both_laid}
use borrow.Author.Rules.{rules}
use Rattle.whole.proofs.union.Goals as goal

pub returns-in_err-n : goal.returns-in_err-n
returns-in_err-n c =
    handed_up _ _ _ _ _ _ _ _ c.from_residual.ensures.1
    (both_first _ _ _ _ _ _ (omega arith) (omega arith) _ _ c.in_err-n.ensures)

pub overflow_mul-n : goal.overflow_mul-n
overflow_mul-n c = omega (arith, laid_fits _ _ _ _ _ _ _ c.in_ok-n.ensures)

pub overflow_add-at : goal.overflow_add-at
overflow_add-at c = omega (arith, laid_fits _ _ _ _ _ _ _ c.in_ok-n.ensures)

pub again-requires-2 : goal.again-requires-2
unfolding Inside
again-requires-2 c =
    let fits = laid_fits _ _ _ _ _ _ _ c.in_ok-n.ensures in
    let long = length_stands _ _ _ _ _ _ _ (omega arith) c.in_ok-n.ensures in
    (omega (arith, c.requires.inside.1), fits, omega (arith, long))

pub returns-in_err-m : goal.returns-in_err-m
returns-in_err-m c =
    handed_up _ _ _ _ _ _ _ _ c.from_residual-in_err-m.ensures.1
    (both_second _ _ _ _ _ _ (omega arith) (omega arith) _ _ c.in_ok-n.ensures _ _
    (second_stands _ _ _ _ _ _ _ _ _ _ _ (omega arith) c.in_ok-n.ensures c.requires.inside.1 c.requires.le_width.1
    c.in_err-m.ensures))

pub overflow_add-result : goal.overflow_add-result
overflow_add-result c =
    let fits = laid_fits _ _ _ _ _ _ _
    (second_stands _ _ _ _ _ _ _ _ _ _ _ (omega arith) c.in_ok-n.ensures c.requires.inside.1 c.requires.le_width.1
    c.in_ok-m.ensures) in
    omega (arith, counted_fits _ _ _ _ _ _ (omega arith) refl fits)

pub returns : goal.returns
returns c =
    both_laid _ _ _ _ _ _ (omega arith) (omega arith) _ _ c.in_ok-n.ensures _ _
    (second_stands _ _ _ _ _ _ _ _ _ _ _ (omega arith) c.in_ok-n.ensures c.requires.inside.1 c.requires.le_width.1
    c.in_ok-m.ensures)
