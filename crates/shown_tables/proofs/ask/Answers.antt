-- `ask` meets its contract: the bytes up to the record's end, and three columns behind them where the
-- width is not 3.
use Prim.Native.Nat.{◌-◌}
use mathlib.Core.Path.{◌≡◌}
use native.Mathlib.Omega.{arith}
use Rattle.pen.proofs.Putting.{pens_more, pens_as}
use Rattle.lines.proofs.Putting.{put_penned}
use Rattle.shown_tables.proofs.Placing.{asked_three, asked_more}
use borrow.Author.Rules.{rules}
use Rattle.shown_tables.proofs.ask.Goals as goal

pub returns-then-width-eq3 : goal.returns-then-width-eq3
returns-then-width-eq3 c =
    let end = c.args.end in
    let whole : end - 0 ≡ end = omega arith in
    put_penned _ _ _ _ _ (search rules)
    (pens_as (asked_three _ end _ _ (end - 0) whole c.if-width-eq3.true) c.put_word-a.ensures)

pub returns : goal.returns
returns c =
    let end = c.args.end in
    let whole : end - 0 ≡ end = omega arith in
    put_penned _ _ _ _ _ (search rules)
    (pens_as (asked_more _ end _ _ (end - 0) whole c.if-width-eq3.false c.requires.2)
    (pens_more c.put_word-a.ensures c.put_word.ensures))
