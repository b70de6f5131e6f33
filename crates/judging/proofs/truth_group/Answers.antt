-- `judging::truth_group` meets its contract: it fails where the group's truth does.
use mathlib.Core.Path.{refl, sym, ap, ◌∙◌}
use native.Mathlib.Omega.{arith}
use mir.Syntax.{w64}
use Rattle.cells.proofs.Bits.{read_back}
use Rattle.items.specs.Answers.{judged}
use Rattle.tables.specs.Layout.{Inside}
use Rattle.members.proofs.Members.{pair_is, owes_given}
use Rattle.tables.proofs.Promise.{owes_gone}
use borrow.Author.Rules.{rules}
use Rattle.judging.proofs.truth_group.Goals as goal

pub group_truth-judged-requires : goal.group_truth-judged-requires
unfolding Inside
group_truth-judged-requires c =
    (omega arith, c.requires.width_value, omega arith)

pub returns-in_err-b : goal.returns-in_err-b
returns-in_err-b c =
    let h = c.in_err-b.ensures in
    owes_gone _ _ _ _ _ _ c.group_truth-judged.result c.in_err-b.field-0.0 c.from_residual.result
    c.from_residual.ensures.1 h.value h.ok_part (sym c.group_truth-judged.ensures ∙ ap judged h.ok_part)

pub cell_at-x-requires : goal.cell_at-x-requires
unfolding Inside
cell_at-x-requires c =
    (omega arith, omega arith, omega arith)

pub returns : goal.returns
returns c =
    owes_given _ _ _ _ _ _ _ _ _ (sym c.group_truth-judged.ensures
    ∙ ap judged c.in_ok-b.ensures.ok_part)
    (pair_is _ _ _ _ _ _ _ _ _ (read_back w64 c.cell_at-x.type_inv ∙ c.cell_at-x.ensures)
    (read_back w64 c.truth_cell.type_inv ∙ c.truth_cell.ensures) c.pair.ensures)
