-- `operands::root_close` meets its contract.
use mathlib.Core.Path.{◌∙◌}
use Rattle.grammar.specs.Records.{record_qr}
use Rattle.grammar.specs.Words.{symbol}
use Rattle.parsing.specs.Reader.{operand}
use Rattle.spelling.specs.declared.Before.TheVariants.{Symbol}
use Rattle.spelling.proofs.Answering.{passed, stopped}
use Rattle.operands.proofs.Stepping.{root_none, root_on}
use Rattle.operands.proofs.Follows.{operand_read, part_stuck, part_up, past_then, off_then, halts_by}
use Rattle.operands.proofs.root_close.Goals as goal

pub returns-then-none : goal.returns-then-none
returns-then-none c =
    part_stuck _ (record { means = root_none c.args.k _ c.if-none.true; inside = c.requires.0 })

pub returns-in_err-next : goal.returns-in_err-next
returns-in_err-next c =
    let k = c.args.k in
    part_up _ _ c.from_residual.ensures.1
    (halts_by (root_on k _ c.if-none.false)
    (off_then (λ closed. operand (record_qr k) symbol) (stopped c.fixed.ensures c.in_err-next.was)))

pub returns : goal.returns
returns c =
    let k = c.args.k in
    let done = passed c.fixed.ensures c.in_ok-next.was in
    operand_read Symbol (record_qr k)
    (root_on k _ c.if-none.false ∙ past_then (λ closed. operand (record_qr k) symbol) done)
    done.inside
    c.add_root-to.ensures
