-- `into_body` meets its contract: the flags of the others, these lifted, then the loop's own variable.
use native.Mathlib.Omega.{arith}
use Rattle.carrying.proofs.Carrying.{body_carried}
use Rattle.carrying.proofs.into_body.Goals as goal

pub returns : goal.returns
returns c =
    let a = c.args in
    body_carried a.v a.own c.free.result c.hold-others.result c.hold-inner.result
    (omega (arith, c.free.type_inv)) c.free.ensures c.hold-others.ensures c.lift-lifted.ensures
    c.hold-inner.ensures (omega (arith, c.hold-inner.type_inv))
