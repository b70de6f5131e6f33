-- `put_right` meets its contract: a long word alone, or behind blanks.
use Prim.Native.Nat.{◌-◌}
use mathlib.Core.Path.{refl}
use lib.ListN.{length, drop, replicate}
use native.Mathlib.Omega.{arith}
use Rattle.pen.proofs.Putting.{pens_more, pens_as}
use Rattle.shown_rows.proofs.Lining.{right_long, right_short, taken_short}
use Rattle.shown_rows.proofs.put_right.Goals as goal

pub returns-then-n-ge12 : goal.returns-then-n-ge12
returns-then-n-ge12 c = (
  pens_as (right_long _ c.if-n-ge12.true) c.put_word.ensures,
  omega (arith, c.put_word.ensures.ends),
)

pub returns : goal.returns
returns c =
    let n = length c.args.word.now in (
      pens_as (right_short _ _ _ refl refl) (pens_more c.put_word-a.ensures c.put_word-2.ensures),
      omega (
        arith,
        c.put_word-2.ensures.ends,
        c.put_word-a.ensures.ends,
        taken_short (12 - n) (drop n (replicate 12 32)),
      ),
    )
