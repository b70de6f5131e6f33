-- `apply` meets its contract, by how many items each side has.
use Prim.Native.Nat.{◌+◌}
use mathlib.Core.Logic.{inl, inr}
use mathlib.Core.Path.{◌∙◌, ap, ap₂}
use native.Mathlib.Omega.{arith}
use lib.IntN.{pos}
use lib.ListN.{get_or}
use mir.Syntax.{w64}
use mir.Val.{SFits}
use mir.Facts.{to_z-of_z}
use Rattle.meaning.specs.World as World
use Rattle.meaning.specs.World.{world_of}
use Rattle.laws.specs.Attempt.{tried}
use Rattle.stack.proofs.Exits.{had_some, had_none}
use Rattle.stack.proofs.Leaving.{put_at}
use Rattle.stack_records.proofs.Applying.{sides_many, sides_none, sides_fail, sides_both}
use borrow.Author.Rules.{rules}
use Rattle.stack_records.proofs.apply.Goals as goal

pub returns-then-first-gt1 : goal.returns-then-first-gt1
returns-then-first-gt1 c =
    λ w room t.
    sides_many _ _ _ _ _ c.args.pair c.requires room t
    (elim c.then-first-gt1.either [ inl h ↦ inl h | inr h ↦ inr (omega arith) ])

pub returns-then-first-eq0 : goal.returns-then-first-eq0
returns-then-first-eq0 c =
    λ w room t.
    sides_none _ _ _ _ _ c.args.pair c.requires room t (omega arith) (omega arith)
    (elim c.then-first-eq0.either [ inl h ↦ inl h | inr h ↦ inr h.1 ])

pub returns-in_err-cell : goal.returns-in_err-cell
unfolding world_of
returns-in_err-cell c =
    let left : SFits w64 (get_or c.args.work.now c.args.top (pos 0)) = search rules in
    let right : SFits w64 (get_or c.args.work.now (c.args.top + 1) (pos 0)) = search rules in
    let is = c.arith.ensures ∙ ap₂ (World.arith c.args.f) (to_z-of_z left) (to_z-of_z right) in
    let p = had_none _ _ _ _ _ c.ok_or.ensures.value c.in_err-cell.was c.from_residual.ensures.1 in
    λ w room t.
    rw p.1
    (sides_fail _ _ _ _ _ c.args.pair c.requires room t (omega arith) (omega arith) _ is (ap tried p.0))

pub returns : goal.returns
unfolding world_of
returns c =
    let narrow : SFits w64 c.in_ok-cell.cell = search rules in
    let left : SFits w64 (get_or c.args.work.now c.args.top (pos 0)) = search rules in
    let right : SFits w64 (get_or c.args.work.now (c.args.top + 1) (pos 0)) = search rules in
    let is = c.arith.ensures ∙ ap₂ (World.arith c.args.f) (to_z-of_z left) (to_z-of_z right) in
    λ w room t.
    sides_both _ _ _ _ _ c.args.pair c.requires room t (omega arith) (omega arith) _ is _ _
    (ap tried (had_some _ _ _ _ c.ok_or.ensures.value c.in_ok-cell.was))
    (put_at _ _ _ _ (to_z-of_z narrow) (omega arith))
