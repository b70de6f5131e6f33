-- `lines::write` meets its contract, by what the translator told.
use native.Mathlib.Omega.{arith}
use Rattle.pen.proofs.Putting.{pens_more, pens_as}
use Rattle.lines.proofs.Putting.{put_penned}
use Rattle.lines.proofs.Lines.{text_gave, text_refused}
use Rattle.lines.proofs.write.Goals as goal

pub returns-in-Err : goal.returns-in-Err
returns-in-Err c =
    put_penned _ _ _ _ _ (omega (arith, c.put_refusal.ensures.1))
    (pens_as (text_refused _ _ _ _ _ _ c.in-Err.is)
    c.put_refusal.ensures.0)

pub returns-in-Ok : goal.returns-in-Ok
returns-in-Ok c =
    put_penned _ _ _ _ _ (omega (arith, c.put_first-a.ensures.1, c.put_verdict.ensures.1, c.requires.in_bounds.1))
    (pens_as
    (text_gave _ _ _ _ _ _ _ c.in-Ok.is c.verdict-v.ensures)
    (pens_more c.put_first-a.ensures.0 c.put_verdict.ensures.0))
