-- `paths::steps` meets its contract. The invariant: what the loop still gives of the bytes behind `start` is what
-- the whole gives of those that stood there. The measure is what is left.
use Rattle.std.proofs.Common.{◌≡◌, List, ℕ, ◌≤◌, length, drop}
use Rattle.parsing.specs.Reader.{more_steps, readers}
use Rattle.recording.specs.Recorded.{most_bytes}
use Rattle.operands.proofs.Stepping.{Runs}
use Rattle.paths.proofs.steps.Given as goal

abbrev pub invariant-loop-ends : goal.invariant-loop-ends
invariant-loop-ends l =
    record {
      inside : l.part.next ≤ length l.text;
      long : length l.query ≡ most_bytes;
      within : l.part.made ≤ most_bytes;
      behind : l.start ≤ l.part.made;
      grows : l.initial.part.made ≤ l.part.made;
      runs :
          (ys : List ℕ) →
          Runs l.initial.query l.query l.start l.initial.part.made l.part.made ys
          (more_steps (readers l.initial.left) l.ends l.compared ys l.initial.part.behind
          (drop l.initial.part.next l.text))
          (λ zs. more_steps (readers l.left) l.ends l.compared zs l.part.behind (drop l.part.next l.text));
    }

abbrev pub decreases-loop-ends : goal.decreases-loop-ends
decreases-loop-ends l = l.left
