-- `whole::root` meets its contract: no row, no root, or the root attached to every row.
use mathlib.Core.Path.{refl, sym, ◌∙◌, ap}
use native.Mathlib.Omega.{arith}
use mir.Syntax.{w64}
use mir.Val.{SFits}
use mir.Facts.{to_z-of_z}
use Rattle.laws.specs.Attempt.{gives}
use Rattle.items.specs.Answers.{tried}
use Rattle.rowwise.specs.Tasks.{wider, Suits}
use Rattle.tables.proofs.Promise.{owes_is, owes_missing, none_laid}
use Rattle.whole.proofs.Makes.{rooted_none, rooted_fails, rooted_is}
use borrow.Author.Rules.{rules}
use Rattle.whole.proofs.root.Goals as goal

pub returns-then-t-eq0 : goal.returns-then-t-eq0
returns-then-t-eq0 c =
    owes_is _ _ _ _ _ _ (rooted_none _ _ _ _ c.if-t-eq0.true) (none_laid _ _ _ _ (omega arith))

pub returns-in_err-z : goal.returns-in_err-z
returns-in_err-z c =
    let h = c.in_err-z.ensures in
    owes_missing _ _ _ _ _ _ c.root-tried.result c.in_err-z.field-0.0 c.from_residual.result c.from_residual.ensures.1
    h.value h.ok_part refl
    (rooted_fails _ _ _ _ (omega arith) (sym (ap tried h.ok_part) ∙ c.root-tried.ensures))

pub rowwise-requires : goal.rowwise-requires
unfolding Suits wider
rowwise-requires c =
    record {
      inside = (
        c.requires.inside.0,
        omega arith,
        omega arith,
        omega arith,
      );
      suits = tt;
      bound = omega arith;
    }

pub returns : goal.returns
unfolding wider
returns c =
    let narrow : SFits w64 c.in_ok-z.z = search rules in
    owes_is _ _ _ _ _ _
    (rooted_is _ _ _ _ _ _
    (ap gives (to_z-of_z narrow)
    ∙ sym (ap tried c.in_ok-z.ensures.ok_part)
    ∙ c.root-tried.ensures))
    c.rowwise.ensures
