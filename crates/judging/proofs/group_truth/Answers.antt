-- `judging::group_truth` meets its contract.
use mathlib.Core.Path.{refl, ◌∙◌}
use native.Mathlib.Omega.{arith}
use mir.Syntax.{w64}
use Rattle.cells.proofs.Bits.{read_back}
use Rattle.tables.specs.Layout.{table_at}
use Rattle.tables.proofs.Reading.{length_table}
use Rattle.judging.proofs.Least.{group_truth_is}
use borrow.Author.Rules.{rules}
use Rattle.judging.proofs.group_truth.Goals as goal

pub returns : goal.returns
returns c =
    c.judge.ensures
    ∙ group_truth_is (table_at c.args.work.now c.args.s)
    (omega (arith, length_table c.args.work.now c.args.s)) _ _ _ _
    c.first_of-first.ensures.1 c.count_rows-n.ensures.1
    (read_back w64 c.cell_at.type_inv ∙ c.cell_at.ensures) refl
