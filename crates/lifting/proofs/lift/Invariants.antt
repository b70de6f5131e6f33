-- `lift` meets its contract: the flagged variables below v are lifted.
use mathlib.Core.List.{[], ◌∷◌}
use Rattle.lifting.specs.Lifts.{Lifts, flagged}
use Rattle.lifting.proofs.lift.Given as goal

abbrev pub invariant-loop-v : goal.invariant-loop-v
invariant-loop-v l =
    Lifts l.initial.done.tables l.m (l.first ∷ 1 ∷ 2 ∷ []) (flagged l.flags l.v)
    l.initial.plan l.initial.done.pen l.plan l.done
