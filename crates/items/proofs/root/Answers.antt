-- `root` meets its contract: the root, where there is one, is a row, so that its cell is within the cells.
use mathlib.Core.Path.{◌∙◌, ap}
use Prim.Native.Nat.{◌<◌}
use native.Mathlib.Omega.{arith}
use mir.Syntax.{w64}
use Rattle.cells.proofs.Bits.{read_back}
use Rattle.doc_rows.specs.Answers.{found}
use Rattle.laws.specs.Attempt.{gives}
use Rattle.meaning.specs.Catalogue.{catalogue_of}
use Rattle.items.proofs.Cases.{root_row, root_none, root_is}
use Rattle.items.proofs.root.Goals as goal

pub returns-in_err-r : goal.returns-in_err-r
unfolding found
returns-in_err-r c =
    rw c.from_residual.ensures (root_none _ _ c.in_err-r.ensures)

pub node_cell-requires : goal.node_cell-requires
unfolding catalogue_of found
node_cell-requires c =
    let row : c.in_ok-r.r.0 < c.args.rows = root_row (catalogue_of _ _) _ _ c.in_ok-r.ensures in
    omega (arith, row)

pub returns : goal.returns
unfolding found
returns c =
    ap gives (read_back w64 c.node_cell.type_inv ∙ c.node_cell.ensures) ∙ root_is _ _ _ c.in_ok-r.ensures
