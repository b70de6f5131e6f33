-- `paths::behind` meets its contract.
use Rattle.parsing.specs.Reader.{more_steps, readers}
use Rattle.spelling.proofs.Answering.{is_value, no_value}
use Rattle.operands.proofs.Follows.{part_by, part_up, past_then, off_then}
use Rattle.paths.proofs.behind.Goals as goal

pub returns-in_err-found : goal.returns-in_err-found
returns-in_err-found c =
    λ ys.
    let a = c.args in
    part_up _ _ c.from_residual.ensures.1
    (off_then (λ n. more_steps (readers a.left) a.ends a.compared ys n)
    (no_value c.next.ensures c.in_err-found.was))

pub steps-requires : goal.steps-requires
steps-requires c =
    ((is_value c.next.ensures c.in_ok-found.was).inside, c.requires.1, c.requires.2, c.requires.3)

pub returns : goal.returns
returns c =
    λ ys.
    let a = c.args in
    part_by _
    (past_then (λ n. more_steps (readers a.left) a.ends a.compared ys n)
    (is_value c.next.ensures c.in_ok-found.was))
    (c.steps.ensures ys)
