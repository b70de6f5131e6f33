-- Running a plan (document 01, 'Plan operators', 'Room').
--     run w ops ts            the tables ts and those that the operators make after them, or that one fails
--     cells p t               the cells of the table of an operator: rows times width
--     Filled                  all tables, and the cells they fill
--     running w room ps ts n  the same with room, n cells filled so far: 6 or 7 at the operator at work, failing
--                             before room
--     Hand                    somebody who moves the rows of each new table: from the tables so far and the new one to
--                             the table that is kept
--     running_by hand ..       as `running`, but each new table is kept as the hand leaves it
--     turning k               the hand that turns table k round and leaves every other table as it stands
use Rattle.std.specs.Prelude.{ℕ, ◌+◌, ◌*◌, List, [], ◌∷◌, ◌++◌, reverse, cond, leb, eqb, length}
use Rattle.laws.specs.Attempt.{Attempt, gives, attempt, Work, done, trying, within}
use Rattle.meaning.specs.World.{World}
use Rattle.meaning.specs.Plan.{Op, Placed}
use Rattle.meaning.specs.Operators.{Table, make}

unfoldable pub run : World → List Op → List Table → Attempt (List Table)
run w [] ts = gives ts
run w (o ∷ os) ts = attempt (make w o ts) (λ t. run w os (ts ++ (t ∷ [])))

unfoldable pub cells : Placed → Table → ℕ
cells p t = length t * p.width

pub record Filled : Type 0 where
  pub tables : List Table
  pub filled : ℕ

-- the runner lays tables end to end; for each operator failing is tested before room
unfoldable pub running : World → ℕ → List Placed → List Table → ℕ → Work Filled
running w room [] ts filled = done (record { tables = ts; filled = filled })
running w room (p ∷ ps) ts filled =
    trying p.at (make w p.op ts)
    (λ t. within (leb (filled + cells p t) room) p.at (running w room ps (ts ++ (t ∷ [])) (filled + cells p t)))

-- a hand knows the tables so far, and so which operator is at work
abbrev pub Hand : Type 0
Hand = List Table → Table → Table

unfoldable pub running_by : Hand → World → ℕ → List Placed → List Table → ℕ → Work Filled
running_by hand w room [] ts filled = done (record { tables = ts; filled = filled })
running_by hand w room (p ∷ ps) ts filled =
    trying p.at (make w p.op ts)
    (λ t. within (leb (filled + cells p t) room) p.at
    (running_by hand w room ps (ts ++ (hand ts t ∷ [])) (filled + cells p t)))

unfoldable pub turning : ℕ → Hand
turning k ts t = cond (eqb (length ts) k) (reverse t) t
