-- `root` meets its contract: the root is added, where there is one.
use mathlib.Core.Path.{refl, sym, ◌∙◌, ap}
use mir.Syntax.{w64}
use mir.Val.{SFits}
use mir.Facts.{to_z-of_z}
use Rattle.meaning.specs.World.{world_of}
use Rattle.stack_records.specs.Arms.{rooted}
use Rattle.laws.specs.Attempt.{tried}
use Rattle.stack.proofs.Exits.{had_some, had_none}
use Rattle.stack.proofs.Leaving.{leaves_fails, leaves_gives, leaves_as, adding_as}
use borrow.Author.Rules.{rules}
use Rattle.stack_records.proofs.root.Goals as goal

pub returns-in_err-cell : goal.returns-in_err-cell
unfolding rooted world_of
returns-in_err-cell c =
    let p = had_none _ _ _ _ _ c.ok_or.ensures.value c.in_err-cell.was c.from_residual.ensures.1 in
    rw p.1 (leaves_fails _ _ _ _ _ _ _ (sym c.root.ensures ∙ ap tried p.0))

pub returns : goal.returns
unfolding rooted world_of
returns c =
    let narrow : SFits w64 c.in_ok-cell.cell = search rules in
    leaves_gives _ _ _ _ _ _ _ _ _ _
    (sym c.root.ensures ∙ ap tried (had_some _ _ _ _ c.ok_or.ensures.value c.in_ok-cell.was))
    (leaves_as _ _ _ _ _ _ _ _ _
    (adding_as _ _ _ _ _ (to_z-of_z narrow)) refl c.put.ensures)
