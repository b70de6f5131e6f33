-- What the operators gather of each group (document 01, 'Plan operators', RC, RE and RX).
--     column_of gather            the column that the groups go by
--     gathered gather w x g      the rows that are made of the group g of the cell x, in the world w
--     made gather w t x          .. of the group of x in the table t
--     turn gather w t i          the same for row i of t, where it opens a group: no rows where it does not
--     whole gather w t           what is made of all groups, by first appearance
--     Asks ..                    what an operator asks of the table's width, of the catalogue and of the marks
use Rattle.std.specs.Prelude.{ℕ, ◌≤◌, ◌<◌, ◌≡◌, List, [], ◌∷◌, map, Bool, cond, ℤ, pos, length}
use Rattle.cells.specs.Cell.{truth_cell}
use Rattle.laws.specs.Attempt.{Attempt, gives, attempt, each}
use Rattle.meaning.specs.World.{World}
use Rattle.meaning.specs.Operators.{Table, column, groups, group_of, items_in_order}
use Rattle.step_parts.specs.Steps.{Ready}
use Rattle.gathering.specs.declared.Gather.{Gather}
use Rattle.gathering.specs.declared.Gather.TheVariants.{Count, Truth, Step}
use Rattle.members.specs.Grouped.{opening}
use Rattle.tables.specs.Order.{cell_at}

unfoldable pub column_of : Gather → ℕ
column_of (Count c) = c
column_of Truth = 0
column_of (Step axis _) = 0

unfoldable pub gathered : Gather → World → ℤ → Table → Attempt Table
gathered (Count c) w x g = gives ((x ∷ pos (length g) ∷ []) ∷ [])
gathered Truth w x g = attempt (w.truth (items_in_order g)) (λ b. gives ((x ∷ truth_cell b ∷ []) ∷ []))
gathered (Step axis test) w x g = attempt (w.step axis test (column g 1)) (λ ys. gives (map (λ y. x ∷ y ∷ []) ys))

unfoldable pub made : Gather → World → Table → ℤ → Attempt Table
made gather w t x = gathered gather w x (group_of t (column_of gather) x)

unfoldable pub turn : Gather → World → Table → ℕ → Attempt Table
turn gather w t i =
    cond (opening t (column_of gather) i) (made gather w t (cell_at t (column_of gather) i)) (gives [])

unfoldable pub whole : Gather → World → Table → Attempt Table
whole gather w t = each (made gather w t) (groups t (column_of gather))

-- RC: a column, and counts that fit a cell; RE: width 3; RX: width 2, a sound catalogue and marks for its rows
unfoldable pub Asks : Gather → (width room : ℕ) → List ℕ → ℕ → (from to : List Bool) → Type 0
Asks (Count c) width room doc rows from to = (c < width) × (room ≤ 65536)
Asks Truth width room doc rows from to = width ≡ 3
Asks (Step axis _) width room doc rows from to = (width ≡ 2) × Ready doc rows from to
