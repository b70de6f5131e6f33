-- `spelling::brackets` meets its contract.
use Rattle.grammar.specs.Words.{symbol, close_sign}
use Rattle.parsing.specs.Reader.{then, give, read_word}
use Rattle.spelling.proofs.Answering.{passed, stopped, on, off, fixed_up, only}
use Rattle.spelling.proofs.brackets.Goals as goal

pub returns-in_err-next : goal.returns-in_err-next
returns-in_err-next c =
    fixed_up _ c.from_residual.ensures.1
    (off (λ opened u. then (read_word symbol close_sign u) (λ closed. give tt))
    (stopped c.fixed.ensures c.in_err-next.was))

pub fixed-requires-2 : goal.fixed-requires-2
fixed-requires-2 c =
    (passed c.fixed.ensures c.in_ok-next.was).inside

pub returns : goal.returns
returns c =
    on (λ opened u. then (read_word symbol close_sign u) (λ closed. give tt))
    (passed c.fixed.ensures c.in_ok-next.was)
    (only c.fixed-2.ensures)
