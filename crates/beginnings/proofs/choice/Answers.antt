-- `beginnings::choice` meets its contract.
use mathlib.Core.Path.{◌∙◌}
use Rattle.grammar.specs.Records.{record_qi}
use Rattle.spelling.proofs.Answering.{passed, stopped}
use Rattle.operands.proofs.Follows.{past_then, off_then, halts_by}
use Rattle.beginnings.specs.Begun.{choice_rest}
use Rattle.beginnings.proofs.Begun.{begins_choice, begins_up, choice_at}
use Rattle.beginnings.proofs.choice.Goals as goal

pub returns-in_err-from : goal.returns-in_err-from
returns-in_err-from c =
    λ rd d e.
    begins_up rd d e _ c.from_residual.ensures.1
    (halts_by (choice_at rd d e _)
    (off_then (choice_rest rd d e record_qi) (stopped c.opened.ensures c.in_err-from.was)))

pub returns : goal.returns
returns c =
    λ rd d e.
    let done = passed c.opened.ensures c.in_ok-from.was in
    begins_choice rd d e
    (record {
      mark = record_qi;
      means = choice_at rd d e _ ∙ past_then (choice_rest rd d e record_qi) done;
      inside = done.inside;
      added = c.add_if-to.ensures;
    })
