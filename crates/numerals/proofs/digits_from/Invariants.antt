-- `numerals::digits_from` meets its contract. The invariant: what is left gives, behind the value so far, what the
-- whole gives.
use Prim.Native.Nat.{◌≤◌}
use mathlib.Core.Path.{◌≡◌}
use lib.ListN.{drop}
use Rattle.numerals.specs.Numerals.{numeral_from}
use Rattle.numerals.proofs.digits_from.Given as goal

abbrev pub invariant-loop-i : goal.invariant-loop-i
invariant-loop-i l =
    (l.n ≤ l.most)
    × (numeral_from l.most l.n (drop l.i l.text) ≡ numeral_from l.most l.value (drop l.at l.text))
