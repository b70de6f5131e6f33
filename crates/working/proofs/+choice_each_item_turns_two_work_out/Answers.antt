-- The cycle of the evaluator, function by function: each meets its contract, where those that it calls with less depth
-- do.
use Prim.Native.Nat.{◌-◌, ◌+◌, ◌*◌, ◌<◌}
use mathlib.Core.Path.{◌≡◌, refl, sym, ◌∙◌, ap, subst}
use native.Mathlib.Omega.{arith}
use Rattle.working.proofs.Choosing.{choice_stopped, choice_untrue, choice_chosen, choice_broken}
use borrow.Author.Rules.{rules}
use Rattle.laws.specs.Attempt.{tried}
use Rattle.meaning.specs.Catalogue.{catalogue_of}
use Rattle.meaning.specs.World.{world_of, truth}
use Rattle.lent.proofs.Moves.{part_row}
use Rattle.working.proofs.Working.{tree_is, ranged_is}
use Rattle.working.proofs.Working.{leaves_none, leaves_joined, works_nothing, works_as, works_leaf, works_one}
use Rattle.working.proofs.Working.{works_two, number_is, values_is, step_is, join_is, keep_is, apply_is}
use Rattle.working.proofs.Turning.{for_stopped, for_turned, turning_start}
use Rattle.working.proofs.Turning.{turning_scoped, turning_on, turning_stopped, turning_end}
use Rattle.query_walks.specs.Parse.{trees}
use Rattle.working_parts.specs.Scopes.{Scoped, scoping}
use Rattle.working.proofs.Pairing.{pairs_stopped, pairs_broken, pairs_both}
use Rattle.working_parts.proofs.Scoping.{scoped_more, scoped_bound}
use mir.Syntax.{w64}
use mir.Val.{SFits}
use mir.Facts.{to_z-of_z}
use Rattle.meaning.specs.Query.{QL, QE, QR, QV, QS, QT, QO, QC, QD, QX}
use Rattle.meaning.specs.Counted.{adding, evaluate}
use Rattle.query_records.specs.Decoded.{record_of}
use Rattle.query_records.specs.Fields.{Ranged}
use Rattle.query_walks.proofs.Callers.{unfound_parses, shallow_parses}
use Rattle.std.specs.Prelude.{Ok, Err}
use Rattle.stack.specs.Moves.{joined, kept, counted}
use Rattle.stack_records.specs.Arms.{rooted, applied, valued, stepped}
use Rattle.stack.proofs.Exits.{err_is, had_some, had_none}
use Rattle.stack.proofs.Leaving.{leaves_as, leaves_stopped, pair_stopped, adding_as}
use Rattle.working.proofs.+choice_each_item_turns_two_work_out.Goals as goal

-- `two`: the second operand is worked out behind the items of the first, which its scope may see. What the first came
-- to is taken by its value: `refused`, `gave`.
pub two-returns-in_err-first : goal.two-returns-in_err-first
two-returns-in_err-first t c =
    let refused : c.work_out.result ≡ Err c.in_err-first.field-0.0 = grind arith in
    rw (err_is _ _ c.from_residual.ensures.1) (pairs_stopped _ _ _ _ _ _ _ _ _ _ (rw refused at c.work_out.ensures))

pub two-work_out-requires-2 : goal.two-work_out-requires-2
two-work_out-requires-2 t c =
    let p = c.requires in
    let a = c.args in
    let first = c.in_ok-first.first in
    let gave : c.work_out.result ≡ Ok first = grind arith in
    let held = rw gave at c.work_out.ensures in
    let f = held.fit in
    let inside : Scoped (a.top + first.length) (scoping a.scope a.binding a.top first.length) =
    scoped_bound _ a.top first.length _ _ p.3 (omega arith)
    (scoped_more a.top (a.top + first.length) _ (omega arith) p.1) in (
      omega arith,
      (
        p.0,
        subst (Scoped _) (sym c.inner-seen.ensures) inside,
        record { low = omega (arith, f.0, f.1); lent = omega (arith, c.work_out.auto.work, p.2.lent) },
      ),
    )

pub two-returns-in_err-second : goal.two-returns-in_err-second
two-returns-in_err-second t c =
    let p = c.requires in
    let gave : c.work_out.result ≡ Ok c.in_ok-first.first = grind arith in
    rw (err_is _ _ c.from_residual-in_err-second.ensures.1)
    (pairs_broken _ _ _ _ _ _ _ _ _ _ _ _ c.inner-seen.ensures p.1 p.3
    (omega (arith, c.work_out.auto.work, p.2.lent)) (rw gave at c.work_out.ensures) _ c.in_err-second.ensures)

pub two-returns : goal.two-returns
two-returns t c =
    let p = c.requires in
    let gave : c.work_out.result ≡ Ok c.in_ok-first.first = grind arith in
    pairs_both _ _ _ _ _ _ _ _ _ _ _ _ c.inner-seen.ensures p.1 p.3
    (omega (arith, c.work_out.auto.work, p.2.lent)) (rw gave at c.work_out.ensures) _ _ c.beside.ensures
    c.in_ok-second.ensures

-- `turns`: the turns that are left, behind the results so far, give what all turns give
pub turns-loop-i-init : goal.turns-loop-i-init
turns-loop-i-init t c =
    let p = c.requires in
    turning_start _ _ _ _ _ _ _ _ _ p.4.0 p.4.1

pub turns-work_out-requires : goal.turns-work_out-requires
turns-work_out-requires t c =
    let p = c.requires in
    let inv = c.loop-i.invariant in (
      omega arith,
      (
        p.0,
        subst (Scoped _) (sym c.bound-seen.ensures)
            (turning_scoped _ _ _ _ _ _ _ _ _ _ _ _ _ inv p.1 p.3 p.2.lent c.loop-i-test.true),
        record { low = omega (arith, inv.above, inv.within); lent = omega (arith, inv.long, p.2.lent) },
      ),
    )

pub turns-returns-in_err-turn : goal.turns-returns-in_err-turn
turns-returns-in_err-turn t c =
    let p = c.requires in
    rw (err_is _ _ c.from_residual.ensures.1)
    (turning_stopped _ _ _ _ _ _ _ _ _ _ _ _ _ c.loop-i.invariant p.1 p.3 p.2.lent c.loop-i-test.true _ _
    c.bound-seen.ensures _ _ c.in_err-turn.ensures)

pub turns-loop-i-preserved : goal.turns-loop-i-preserved
turns-loop-i-preserved t c =
    let p = c.requires in
    turning_on _ _ _ _ _ _ _ _ _ _ _ _ _ c.loop-i.invariant p.1 p.3 p.2.lent c.loop-i-test.true _ _
    c.bound-seen.ensures _ _ c.max-most.ensures c.work_out.auto.work c.in_ok-turn.ensures

pub turns-returns : goal.turns-returns
turns-returns t c =
    turning_end _ _ _ _ _ _ _ _ _ _ _ _ _ _ (omega arith) c.loop-i.invariant

-- `each_item`: the results of the turns over a's items move down over those
pub each_item-returns-in_err-a : goal.each_item-returns-in_err-a
each_item-returns-in_err-a t c =
    λ place. rw (err_is _ _ c.from_residual.ensures.1) (for_stopped _ _ place _ _ _ _ _ _ _ _ c.in_err-a.ensures)

pub each_item-returns-in_err-results : goal.each_item-returns-in_err-results
unfolding kept
each_item-returns-in_err-results t c =
    let p = c.requires in
    λ place.
    rw (err_is _ _ c.from_residual-in_err-results.ensures.1)
    (for_turned _ _ place _ _ _ _ _ _ _ _ _ _ _ _ _ p.1 (omega (arith, c.work_out.auto.work, p.2.lent))
    c.in_ok-a.ensures c.skip-end.ensures c.in_err-results.ensures (pair_stopped _ _ _ _ _))

pub each_item-returns : goal.each_item-returns
each_item-returns t c =
    let p = c.requires in
    let u = c.in_ok-results.ensures in
    λ place.
    for_turned _ _ place _ _ _ _ _ _ _ _ _ _ _ _ _ p.1 (omega (arith, c.work_out.auto.work, p.2.lent))
    c.in_ok-a.ensures c.skip-end.ensures u (c.drop_first.ensures _ u.fit)

-- `choice`: the truth of the condition chooses the branch that is worked out
pub choice-returns-in_err-c : goal.choice-returns-in_err-c
choice-returns-in_err-c t c =
    rw (err_is _ _ c.from_residual.ensures.1) (choice_stopped _ _ _ _ _ _ _ _ _ _ c.in_err-c.ensures)

pub choice-returns-in_err-truth : goal.choice-returns-in_err-truth
unfolding world_of
choice-returns-in_err-truth t c =
    let p = had_none _ _ _ _ _ c.ok_or.ensures.value c.in_err-truth.was c.from_residual-in_err-truth.ensures.1 in
    let holds = ap truth (sym (part_row c.work_out.new.work c.args.top c.in_ok-c.c.length)) ∙ sym c.truth.ensures in
    rw p.1 (choice_untrue _ _ _ _ _ _ _ _ _ _ c.in_ok-c.ensures (holds ∙ ap tried p.0))

pub choice-returns-in_err-branch : goal.choice-returns-in_err-branch
unfolding world_of
choice-returns-in_err-branch t c =
    let p = had_some _ _ _ _ c.ok_or.ensures.value c.in_ok-truth.was in
    let holds = ap truth (sym (part_row c.work_out.new.work c.args.top c.in_ok-c.c.length)) ∙ sym c.truth.ensures in
    rw (err_is _ _ c.from_residual-in_err-branch.ensures.1)
    (choice_broken _ _ _ _ _ _ _ _ _ _ c.in_ok-c.ensures c.requires.1 _ _ c.skip-past.ensures c.skip-last.ensures
    _ _ _ (holds ∙ ap tried p) c.selected-taken.ensures _ c.in_err-branch.ensures)

pub choice-returns : goal.choice-returns
unfolding world_of
choice-returns t c =
    let p = had_some _ _ _ _ c.ok_or.ensures.value c.in_ok-truth.was in
    let holds = ap truth (sym (part_row c.work_out.new.work c.args.top c.in_ok-c.c.length)) ∙ sym c.truth.ensures in
    choice_chosen _ _ _ _ _ _ _ _ _ _ c.in_ok-c.ensures c.requires.1 _ _ c.skip-past.ensures c.skip-last.ensures
    _ _ _ (holds ∙ ap tried p) c.selected-taken.ensures _ _ _ c.in_ok-branch.ensures c.ending.ensures c.raise.ensures

-- `work_out`: record by record, each arm leaves what its clause of `evaluate` says
pub work_out-returns-then-depth-eq0 : goal.work_out-returns-then-depth-eq0
work_out-returns-then-depth-eq0 t c =
    let a = c.args in
    works_nothing _ _ _ _ _ _ _ (shallow_parses a.query.now a.at a.depth c.if-depth-eq0.true)

pub work_out-returns-in_default : goal.work_out-returns-in_default
work_out-returns-in_default t c =
    let a = c.args in
    let r = c.read-reading in
    works_nothing _ _ _ _ _ _ _ (unfound_parses a.query.now a.at r.result r.ensures c.in_default.is a.depth)

pub work_out-root-requires : goal.work_out-root-requires
unfolding Ranged record_of
work_out-root-requires t c =
    let p = c.requires in
    let r = ranged_is _ _ _ c.read-reading.ensures _ c.in-Some.is _ c.in-Root.is in
    (p.0.there, omega (arith, p.0.few), r.0, p.2)

pub work_out-variable-requires : goal.work_out-variable-requires
unfolding Ranged record_of
work_out-variable-requires t c =
    let p = c.requires in
    (ranged_is _ _ _ c.read-reading.ensures _ c.in-Some.is _ c.in-Variable.is, p.1, p.2)

pub work_out-two-requires-in-Let : goal.work_out-two-requires-in-Let
unfolding Ranged record_of
work_out-two-requires-in-Let t c =
    let less : 3 * (c.args.depth - 1) + 2 < t = omega (arith, c.if-depth-eq0.false) in
    let p = c.requires in
    (omega (arith, less), (p.0, p.1, p.2, ranged_is _ _ _ c.read-reading.ensures _ c.in-Some.is _ c.in-Let.is))

pub work_out-each_item-requires : goal.work_out-each_item-requires
unfolding Ranged record_of
work_out-each_item-requires t c =
    let less : 3 * (c.args.depth - 1) + 2 < t = omega (arith, c.if-depth-eq0.false) in
    let p = c.requires in
    (omega (arith, less), (p.0, p.1, p.2, ranged_is _ _ _ c.read-reading.ensures _ c.in-Some.is _ c.in-For.is))

pub work_out-returns-in-Literal : goal.work_out-returns-in-Literal
unfolding evaluate trees record_of
work_out-returns-in-Literal t c =
    let tree = tree_is _ _ _ c.read-reading.ensures _ c.in-Some.is _ c.in-Literal.is _ c.if-depth-eq0.false in
    let narrow : SFits w64 c.cell_of.result = search rules in
    works_leaf _ _ _ _ _ _ _ _ (QL _ _) _ _ tree c.put.ensures
    (λ e h. adding_as _ _ 0 _ _ (to_z-of_z narrow ∙ c.cell_of.ensures))

pub work_out-returns-in-Empty : goal.work_out-returns-in-Empty
unfolding evaluate trees record_of
work_out-returns-in-Empty t c =
    let tree = tree_is _ _ _ c.read-reading.ensures _ c.in-Some.is _ c.in-Empty.is _ c.if-depth-eq0.false in
    works_leaf _ _ _ _ _ _ _ _ (QE _) _ _ tree (leaves_none _ _ _ _ c.requires.2.low) (λ e h. refl)

pub work_out-returns-in-Root : goal.work_out-returns-in-Root
unfolding evaluate trees record_of rooted
work_out-returns-in-Root t c =
    let tree = tree_is _ _ _ c.read-reading.ensures _ c.in-Some.is _ c.in-Root.is _ c.if-depth-eq0.false in
    works_leaf _ _ _ _ _ _ _ _ (QR _ _) _ _ tree c.root.ensures (λ e h. refl)

pub work_out-returns-in-Variable : goal.work_out-returns-in-Variable
unfolding evaluate trees record_of Ranged
work_out-returns-in-Variable t c =
    let tree = tree_is _ _ _ c.read-reading.ensures _ c.in-Some.is _ c.in-Variable.is _ c.if-depth-eq0.false in
    let ranged = ranged_is _ _ _ c.read-reading.ensures _ c.in-Some.is _ c.in-Variable.is in
    works_leaf _ _ _ _ _ _ _ _ (QV _ _) _ _ tree c.variable.ensures (λ e h. ap (adding _ _ 0) (h _ ranged))

pub work_out-returns-in-For : goal.work_out-returns-in-For
unfolding trees record_of
work_out-returns-in-For t c =
    let tree = tree_is _ _ _ c.read-reading.ensures _ c.in-Some.is _ c.in-For.is _ c.if-depth-eq0.false in
    works_as _ _ _ _ _ _ _ _ _ tree (c.each_item.ensures _)

pub work_out-returns-in-If : goal.work_out-returns-in-If
unfolding trees record_of
work_out-returns-in-If t c =
    let tree = tree_is _ _ _ c.read-reading.ensures _ c.in-Some.is _ c.in-If.is _ c.if-depth-eq0.false in
    works_as _ _ _ _ _ _ _ _ _ tree c.choice.ensures

pub work_out-returns-in_err-pair-in-Sequence : goal.work_out-returns-in_err-pair-in-Sequence
unfolding trees record_of joined
work_out-returns-in_err-pair-in-Sequence t c =
    let tree = tree_is _ _ _ c.read-reading.ensures _ c.in-Some.is _ c.in-Sequence.is _ c.if-depth-eq0.false in
    rw (err_is _ _ c.from_residual.ensures.1)
    (works_two _ _ _ _ _ _ _ _ _ _ (QS _) _ _ _ joined tree (join_is _ _ _)
    c.in_err-pair-in-Sequence.ensures (pair_stopped _ _ _ _ _))

pub work_out-returns-in_ok-pair-in-Sequence : goal.work_out-returns-in_ok-pair-in-Sequence
unfolding trees record_of
work_out-returns-in_ok-pair-in-Sequence t c =
    let tree = tree_is _ _ _ c.read-reading.ensures _ c.in-Some.is _ c.in-Sequence.is _ c.if-depth-eq0.false in
    let u = c.in_ok-pair-in-Sequence.ensures in
    works_two _ _ _ _ _ _ _ _ _ _ (QS _) _ _ _ joined tree (join_is _ _ _) u
    (leaves_as _ _ _ _ _ _ _ _ _ refl (sym (ap Ok c.join.ensures)) (leaves_joined _ _ _ _ u.fit))

pub work_out-returns-in_err-pair-in-Let : goal.work_out-returns-in_err-pair-in-Let
unfolding trees record_of kept
work_out-returns-in_err-pair-in-Let t c =
    let tree = tree_is _ _ _ c.read-reading.ensures _ c.in-Some.is _ c.in-Let.is _ c.if-depth-eq0.false in
    rw (err_is _ _ c.from_residual-in_err-pair-in-Let.ensures.1)
    (works_two _ _ _ _ _ _ _ _ _ _ (QT _ _) _ _ _ kept tree (λ e p q. keep_is _ _ _ e _ p q)
    c.in_err-pair-in-Let.ensures (pair_stopped _ _ _ _ _))

pub work_out-returns-in_ok-pair-in-Let : goal.work_out-returns-in_ok-pair-in-Let
unfolding trees record_of
work_out-returns-in_ok-pair-in-Let t c =
    let tree = tree_is _ _ _ c.read-reading.ensures _ c.in-Some.is _ c.in-Let.is _ c.if-depth-eq0.false in
    let u = c.in_ok-pair-in-Let.ensures in
    works_two _ _ _ _ _ _ _ _ _ _ (QT _ _) _ _ _ kept tree (λ e p q. keep_is _ _ _ e _ p q) u
    (c.drop_first.ensures _ u.fit)

pub work_out-returns-in_err-pair-in-Apply : goal.work_out-returns-in_err-pair-in-Apply
unfolding trees record_of applied
work_out-returns-in_err-pair-in-Apply t c =
    let tree = tree_is _ _ _ c.read-reading.ensures _ c.in-Some.is _ c.in-Apply.is _ c.if-depth-eq0.false in
    rw (err_is _ _ c.from_residual-in_err-pair-in-Apply.ensures.1)
    (works_two _ _ _ _ _ _ _ _ _ _ (QO _ _) _ _ _ (applied _ _ _) tree (λ e p q. apply_is _ _ _ e _ p q)
    c.in_err-pair-in-Apply.ensures (pair_stopped _ _ _ _ _))

pub work_out-returns-in_ok-pair-in-Apply : goal.work_out-returns-in_ok-pair-in-Apply
unfolding trees record_of
work_out-returns-in_ok-pair-in-Apply t c =
    let tree = tree_is _ _ _ c.read-reading.ensures _ c.in-Some.is _ c.in-Apply.is _ c.if-depth-eq0.false in
    let u = c.in_ok-pair-in-Apply.ensures in
    works_two _ _ _ _ _ _ _ _ _ _ (QO _ _) _ _ _ (applied _ _ _) tree (λ e p q. apply_is _ _ _ e _ p q) u
    (c.apply.ensures _ _ u.fit)

pub work_out-returns-in_err-a-in-Count : goal.work_out-returns-in_err-a-in-Count
unfolding trees record_of counted
work_out-returns-in_err-a-in-Count t c =
    let tree = tree_is _ _ _ c.read-reading.ensures _ c.in-Some.is _ c.in-Count.is _ c.if-depth-eq0.false in
    rw (err_is _ _ c.from_residual-in_err-a-in-Count.ensures.1)
    (works_one _ _ _ _ _ _ _ _ _ _ (QC _) _ (counted _ _) tree (number_is _ _ _)
    c.in_err-a-in-Count.ensures (leaves_stopped _ _ _ _ _))

pub work_out-returns-in_ok-a-in-Count : goal.work_out-returns-in_ok-a-in-Count
unfolding trees record_of
work_out-returns-in_ok-a-in-Count t c =
    let tree = tree_is _ _ _ c.read-reading.ensures _ c.in-Some.is _ c.in-Count.is _ c.if-depth-eq0.false in
    let u = c.in_ok-a-in-Count.ensures in
    works_one _ _ _ _ _ _ _ _ _ _ (QC _) _ (counted _ _) tree (number_is _ _ _) u
    (c.number.ensures)

pub work_out-returns-in_err-a-in-Data : goal.work_out-returns-in_err-a-in-Data
unfolding trees record_of valued
work_out-returns-in_err-a-in-Data t c =
    let tree = tree_is _ _ _ c.read-reading.ensures _ c.in-Some.is _ c.in-Data.is _ c.if-depth-eq0.false in
    rw (err_is _ _ c.from_residual-in_err-a-in-Data.ensures.1)
    (works_one _ _ _ _ _ _ _ _ _ _ (QD _) _ (valued _ _) tree (values_is _ _ _)
    c.in_err-a-in-Data.ensures (leaves_stopped _ _ _ _ _))

pub work_out-returns-in_ok-a-in-Data : goal.work_out-returns-in_ok-a-in-Data
unfolding trees record_of
work_out-returns-in_ok-a-in-Data t c =
    let tree = tree_is _ _ _ c.read-reading.ensures _ c.in-Some.is _ c.in-Data.is _ c.if-depth-eq0.false in
    let u = c.in_ok-a-in-Data.ensures in
    works_one _ _ _ _ _ _ _ _ _ _ (QD _) _ (valued _ _) tree (values_is _ _ _) u
    (c.values.ensures _ u.fit)

pub work_out-returns-in_err-a-in-Step : goal.work_out-returns-in_err-a-in-Step
unfolding trees record_of stepped
work_out-returns-in_err-a-in-Step t c =
    let tree = tree_is _ _ _ c.read-reading.ensures _ c.in-Some.is _ c.in-Step.is _ c.if-depth-eq0.false in
    rw (err_is _ _ c.from_residual-in_err-a-in-Step.ensures.1)
    (let a = c.args in
    let w = world_of (catalogue_of a.doc.now a.rows) in
    works_one _ _ _ _ _ _ _ _ _ _ (QX _ _ _) _ (stepped w (a.room - a.top) a.at c.in-Step.axis c.in-Step.test) tree
    (λ e p. step_is _ _ _ e _ _ p) c.in_err-a-in-Step.ensures (leaves_stopped _ _ _ _ _))

pub work_out-returns-in_ok-a-in-Step : goal.work_out-returns-in_ok-a-in-Step
unfolding trees record_of
work_out-returns-in_ok-a-in-Step t c =
    let tree = tree_is _ _ _ c.read-reading.ensures _ c.in-Some.is _ c.in-Step.is _ c.if-depth-eq0.false in
    let u = c.in_ok-a-in-Step.ensures in
    works_one _ _ _ _ _ _ _ _ _ _ (QX _ _ _) _ (stepped _ _ _ _ _) tree (λ e p. step_is _ _ _ e _ _ p) u
    (c.step.ensures)
