-- `stepping::all_nodes` meets its contract, row by row.
use Prim.Native.Nat.{◌<◌}
use mathlib.Core.Path.{refl, sym, ap, ◌∙◌}
use native.Mathlib.Omega.{arith}
use lib.ListN.{length}
use mir.Syntax.{w64}
use Rattle.cells.proofs.Bits.{read_back}
use Rattle.tables.specs.Layout.{table_at}
use Rattle.stepping.specs.Marking.{is_node}
use Rattle.tables.proofs.Reading.{length_table}
use Rattle.stepping.proofs.Nodes.{all_fails, all_next, all_end}
use Rattle.stepping.proofs.all_nodes.Goals as goal

pub loop-i-init : goal.loop-i-init
loop-i-init c =
    λ d e. refl

pub returns-then-not-is_node : goal.returns-then-not-is_node
returns-then-not-is_node c =
    let here : c.loop-i.i < length (table_at c.args.work.now c.args.s) =
    omega (arith, length_table c.args.work.now c.args.s) in
    λ d e.
    sym (all_fails (is_node d) _ _ _ here
    (ap (is_node d) (sym (read_back w64 c.cell_at.type_inv ∙ c.cell_at.ensures)) ∙ sym (c.is_node.ensures d e)
    ∙ c.if-not-is_node.true))
    ∙ c.loop-i.invariant d e

pub loop-i-preserved : goal.loop-i-preserved
loop-i-preserved c =
    let here : c.loop-i.i < length (table_at c.args.work.now c.args.s) =
    omega (arith, length_table c.args.work.now c.args.s) in
    λ d e.
    sym (all_next (is_node d) _ _ _ here
    (ap (is_node d) (sym (read_back w64 c.cell_at.type_inv ∙ c.cell_at.ensures)) ∙ sym (c.is_node.ensures d e)
    ∙ c.if-not-is_node.false))
    ∙ c.loop-i.invariant d e

pub returns : goal.returns
returns c =
    λ d e.
    sym (all_end (is_node d) (table_at c.args.work.now c.args.s) 1 c.loop-i.i
    (omega (arith, length_table c.args.work.now c.args.s)))
    ∙ c.loop-i.invariant d e
