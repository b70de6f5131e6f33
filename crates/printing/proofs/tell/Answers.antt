-- `tell` meets its contract: the translator's refusal, or the text of its plan.
use mathlib.Core.Path.{refl}
use native.Mathlib.Omega.{arith}
use Rattle.printing.proofs.Joined.{bytes_within, tells_refused, tells_plan}
use borrow.Author.Rules.{rules}
use Rattle.printing.proofs.tell.Goals as goal

pub write-requires : goal.write-requires
write-requires c =
    let long = c.requires.in_bounds.1 in
    record { in_bounds = (omega (arith, long), omega (arith, long)); gave_stands = (tt, tt) }

pub returns-in-Err : goal.returns-in-Err
returns-in-Err c =
    let t = c.translate-translated in
    tells_refused _ _ _ _ _ _ (λ i. (c.type_inv.query i).fits) c.requires.plan_len.0
    t.ensures.0 t.ensures.1 c.plan_told-told.ensures _ _ _ _ _ _ _ _ _ _ c.in-Err.is
    c.write.ensures

pub slice_bounds-both-end : goal.slice_bounds-both-end
slice_bounds-both-end c =
    let t = c.translate-translated in
    let within = bytes_within _ _ _ _ c.in-Ok.is t.ensures.0 in
    omega (arith, within, t.auto.plan)

pub both-requires : goal.both-requires
both-requires c =
    record { work_len = c.requires.plan_len.1; in_bounds = c.requires.in_bounds }

pub returns-in-Ok : goal.returns-in-Ok
returns-in-Ok c =
    let t = c.translate-translated in
    tells_plan _ _ _ _ _ _ (λ i. (c.type_inv.query i).fits) c.requires.plan_len.0 t.ensures.0
    t.ensures.1 c.plan_told-told.ensures _ _ _ _ _ _ _ _ c.in-Ok.is
    c.both.ensures
