-- What the order theorem says of a run (`OrderFree`, on the page of promises: crates/promises/specs/Promises.antt).
--     Unmoved items plain by     what the theorem says of the items that the query means, of the plain run, and of the
--                                run by a hand: both are the same work; where the run by the hand is done, the items
--                                by rising place of its last table, however that stands, are those items; where it
--                                answers 7, the query fails
use Rattle.std.specs.Prelude.{ℕ, ◌≡◌, List, ℤ}
use Rattle.laws.specs.Attempt.{Attempt, fails, Work, failed, done}
use Rattle.laws.specs.Attempt as Attempt
use Rattle.meaning.specs.Operators.{Table, items_in_order}
use Rattle.meaning.specs.Run.{Filled}
use Rattle.meaning.specs.Calls.{gives, last_table}
use Rattle.order.specs.Shuffled.{SameWork}

pub record Unmoved (items : Attempt (List ℤ)) (plain by : Work Filled) : Type 0 where
  pub same : SameWork plain by
  pub read : (us : List Table) (n : ℕ) → by ≡ done (record { tables = us; filled = n })
      → items ≡ Attempt.gives (items_in_order (last_table us))
  pub seven : (place : ℕ) → by ≡ failed place → items ≡ fails
