-- The cycle of the reader: what is left of the text falls from a part to the parts inside it, and from a level of the
-- grammar to the next tighter one. The invariant of `more`: what the loop still gives of the bytes behind `start` is
-- what the whole gives of those that stood there.
use Rattle.std.proofs.Common.{◌≡◌, List, ℕ, ◌≤◌, length, drop, ◌+◌, ◌-◌, ◌*◌}
use Rattle.operands.proofs.Stepping.{Runs}
use Rattle.parsing.specs.Reader.{readers}
use Rattle.recording.specs.Recorded.{most_bytes}
use Rattle.typing.specs.Cycle.{level_of, more_of}
use Rattle.typing.proofs.+text.Given as goal

abbrev pub decreases-choice : goal.decreases-choice
decreases-choice l = l.left * 32 + 2

abbrev pub decreases-inner : goal.decreases-inner
decreases-inner l = l.left * 32

abbrev pub decreases-list : goal.decreases-list
decreases-list l = l.left * 32

abbrev pub decreases-more : goal.decreases-more
decreases-more l = l.left * 32 + (5 * (4 - level_of l.chain) + 3)

abbrev pub decreases-operand : goal.decreases-operand
decreases-operand l = l.left * 32 + 2

abbrev pub decreases-path : goal.decreases-path
decreases-path l = l.left * 32 + 3

abbrev pub decreases-side : goal.decreases-side
decreases-side l = l.left * 32 + (5 * (4 - level_of l.chain) + 1)

abbrev pub decreases-sides : goal.decreases-sides
decreases-sides l = l.left * 32 + 19

abbrev pub decreases-single : goal.decreases-single
decreases-single l = l.left * 32 + 20

abbrev pub decreases-turn : goal.decreases-turn
decreases-turn l = l.left * 32 + (5 * (4 - level_of l.chain) + 2)

abbrev pub decreases-two : goal.decreases-two
decreases-two l = l.left * 32 + 1

abbrev pub decreases-whole : goal.decreases-whole
decreases-whole l = l.left * 32 + (5 * (4 - level_of l.chain) + 4)

abbrev pub invariant-more-loop-ends : goal.invariant-more-loop-ends
invariant-more-loop-ends l =
    record {
      inside : l.part.next ≤ length l.text;
      long : length l.query ≡ most_bytes;
      within : l.part.made ≤ most_bytes;
      behind : l.start ≤ l.part.made;
      grows : l.initial.part.made ≤ l.part.made;
      fewer : l.left ≤ l.initial.left;
      runs :
          (ys : List ℕ) →
          Runs l.initial.query l.query l.start l.initial.part.made l.part.made ys
          (more_of l.chain (readers l.initial.left) l.parens l.ends l.compared ys l.initial.part.behind
          (drop l.initial.part.next l.text))
          (λ zs.
          more_of l.chain (readers l.left) l.parens l.ends l.compared zs l.part.behind
          (drop l.part.next l.text));
    }

abbrev pub decreases-more-loop-ends : goal.decreases-more-loop-ends
decreases-more-loop-ends l = l.left
