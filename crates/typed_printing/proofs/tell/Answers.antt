-- `tell` meets its contract: the reader's refusal, its number and place taken by their values, or what is told of the
-- records.
use mathlib.Core.Path.{ap}
use native.Mathlib.Omega.{arith}
use Rattle.verdicts.specs.declared.ToldRefusal.{ToldRefusal}
use Rattle.typed_printing.proofs.Telling.{bytes_within, nine_at_most, tells_refused, tells_records}
use Rattle.typed_printing.proofs.tell.Goals as goal

pub write-requires : goal.write-requires
write-requires c =
    let long = c.requires.in_bounds.1 in
    record { in_bounds = (omega (arith, long), omega (arith, long)); gave_stands = (tt, tt) }

pub returns-in-Err : goal.returns-in-Err
returns-in-Err c =
    let number = ap (λ (t : ToldRefusal). t.number) c.into.ensures in
    let place = ap (λ (t : ToldRefusal). t.place) c.into.ensures in
    tells_refused c.read-read.result _ _ _ c.read-read.ensures c.requires.query_len _ _ _ _ _ _ _ _ _
    _ _ _ _ _ c.in-Err.is c.write.ensures (omega (arith, number, nine_at_most)) (omega (arith, place))

pub slice_bounds-tell-end : goal.slice_bounds-tell-end
slice_bounds-tell-end c =
    let within = bytes_within c.read-read.result _ _ _ c.read-read.ensures _ c.in-Ok.is in
    omega (arith, within)

pub returns-in-Ok : goal.returns-in-Ok
returns-in-Ok c =
    tells_records c.read-read.result _ _ _ c.read-read.ensures c.requires.query_len _ _ _ _ _ _ _ _ _ _ _
    c.in-Ok.is c.tell.ensures
