-- `numerals::word` meets its contract.
use Prim.Native.Nat.{◌+◌, ◌<◌}
use mathlib.Core.Path.{◌≡◌, sym, ◌∙◌}
use native.Mathlib.Omega.{arith}
use lib.ListN.{length}
use Rattle.numerals.specs.Answers.{told_fixed, fixed_place}
use Rattle.numerals.proofs.Turns.{same_on, same_off, same_end}
use Rattle.numerals.proofs.word.Goals as goal

pub returns-then-byte-from : goal.returns-then-byte-from
unfolding told_fixed fixed_place
returns-then-byte-from c =
    let few : c.from.result < 256 = omega (arith, (c.type_inv.rest c.loop-i.i).fits) in
    let within : c.loop-i.i < length c.args.rest.now = omega arith in (
      sym
          (same_off _ _ _ c.byte.ensures _ _ _ c.from.ensures few within
          c.if-byte-from.true)
          ∙ c.loop-i.invariant.1,
      record { onward = omega arith; inside = omega arith },
    )

pub loop-i-preserved : goal.loop-i-preserved
loop-i-preserved c =
    let few : c.from.result < 256 = omega (arith, (c.type_inv.rest c.loop-i.i).fits) in
    let within : c.loop-i.i < length c.args.rest.now = omega arith in
    let on = same_on _ _ _ c.byte.ensures _ _ _ c.from.ensures few within c.if-byte-from.false in
    let next : c.args.at + (c.loop-i.i + 1) ≡ (c.args.at + c.loop-i.i) + 1 = omega arith in (
      omega (arith, on.0),
      rw next (sym on.1) ∙ c.loop-i.invariant.1,
    )

pub returns : goal.returns
unfolding told_fixed fixed_place
returns c = (
  sym (same_end c.args.rest.now c.loop-i.i (omega arith) c.args.text.now c.args.at) ∙ c.loop-i.invariant.1,
  record { onward = omega arith; inside = omega arith },
)
