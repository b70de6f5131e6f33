-- `numerals::word` meets its contract. The invariant: what is left of the word, read from what is left of the text,
-- gives what the whole gives.
use Prim.Native.Nat.{◌+◌, ◌≤◌}
use mathlib.Core.Path.{◌≡◌}
use lib.ListN.{length, drop}
use Rattle.numerals.specs.Texts.{after}
use Rattle.numerals.proofs.word.Given as goal

abbrev pub invariant-loop-i : goal.invariant-loop-i
invariant-loop-i l =
    (l.at + l.i ≤ length l.text)
    × (after (drop l.i l.rest) (drop (l.at + l.i) l.text) ≡ after l.rest (drop l.at l.text))
