-- The cycle of the evaluator: the depth left falls from a record to its operands, and from an arm to what it works out.
-- The invariant of `turns`: the turns that are left, behind the results so far, give what all turns give.
use Prim.Native.Nat.{◌+◌, ◌*◌}
use Rattle.meaning.specs.Catalogue.{catalogue_of}
use Rattle.meaning.specs.World.{world_of}
use Rattle.query_walks.specs.Parse.{parse}
use Rattle.working.proofs.Turning.{Turning}
use Rattle.working.proofs.+choice_each_item_turns_two_work_out.Given as goal

abbrev pub invariant-turns-loop-i : goal.invariant-turns-loop-i
invariant-turns-loop-i l =
    Turning (world_of (catalogue_of l.doc l.rows)) (parse l.depth l.query l.a.next) l.v l.top l.room l.a.length
    l.a.count
    l.scope l.initial.work l.i l.done l.most l.work

abbrev pub decreases-two : goal.decreases-two
decreases-two l = 3 * l.depth + 2

abbrev pub decreases-turns : goal.decreases-turns
decreases-turns l = 3 * l.depth + 1

abbrev pub decreases-each_item : goal.decreases-each_item
decreases-each_item l = 3 * l.depth + 2

abbrev pub decreases-choice : goal.decreases-choice
decreases-choice l = 3 * l.depth + 2

abbrev pub decreases-work_out : goal.decreases-work_out
decreases-work_out l = 3 * l.depth
