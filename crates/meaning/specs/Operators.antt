-- What each operator makes (document 01, 'Plan operators'). A table is a list of rows, a row a list of cells.
--     Row, Table          a row's cells; a table's rows
--     cell r c            column c of a row
--     column t c          column c of a table, top to bottom
--     same_row r s         equal rows
--     attach t z          RA: adds a column of that cell
--     project t cs        RP: those columns
--     minus t u           RD: rows of t equal to no row of u
--     select t c          RS: rows whose column c is true
--     join t c u d        RJ: for each row of t, each row of u with equal cells
--     rising ks r s       row r stands before row s by the keys ks, first key first
--     numbered_after ..    rows with one more than the earlier rows of their group
--     in_group p r s       two rows have equal column p; 255: all rows are one group
--     number t p ks       RN: rows in order, numbered within equal p
--     added f t           RF, RO: adds a function of each row
--     groups t c          the different cells of column c, by first appearance
--     group_of t c x       the rows of t whose column c holds x
--     counts t c          RC: how many rows hold each cell
--     items_in_order t      column 2 by rising column 1, ties as they stood
--     truths w t          RE: truth of each group
--     once xs             RK: no cell occurs twice
--     steps w axis test t     RX: a step per group
--     rooted w t k        RO: adds the root of fragment k
--     table_of ts t        table t
--     make w op ts        the table that op makes of the tables ts, or that it fails
use Rattle.std.specs.Prelude.{ℕ, zero, suc, ◌+◌, List, [], ◌∷◌, ◌++◌, map, Bool, true, false, not, cond, ◌&&◌, ◌||◌, eqb, ℤ, pos, length, get_or}
use Rattle.cells.specs.Cell.{same, before, true_cell, truth_cell}
use Rattle.laws.specs.Lists.{filter, any, count, gather, firsts}
use Rattle.laws.specs.Sorting.{sort}
use Rattle.laws.specs.Attempt.{Attempt, fails, gives, attempt, provided, each}
use Rattle.codes.specs.declared.Function.{Function}
use Rattle.codes.specs.declared.Axis.{Axis}
use Rattle.codes.specs.declared.Test.{Test}
use Rattle.meaning.specs.World.{World}
use Rattle.meaning.specs.Plan.{Op, RT, RA, RP, RU, RD, RS, RJ, RN, RF, RV, RC, RE, RK, RX, RO}

abbrev pub Row : Type 0
Row = List ℤ

abbrev pub Table : Type 0
Table = List Row

abbrev pub cell : Row → ℕ → ℤ
cell r c = get_or r c (pos 0)

unfoldable pub column : Table → ℕ → List ℤ
column t c = map (λ (r : Row). cell r c) t

unfoldable pub same_row : Row → Row → Bool
same_row [] [] = true
same_row [] (y ∷ ys) = false
same_row (x ∷ xs) [] = false
same_row (x ∷ xs) (y ∷ ys) = same x y && same_row xs ys

-- RA, RP: every row by itself
unfoldable pub attach : Table → ℤ → Table
attach t z = map (λ (r : Row). r ++ (z ∷ [])) t

unfoldable pub project : Table → List ℕ → Table
project t cs = map (λ (r : Row). map (cell r) cs) t

-- RD: rows of t equal to no row of u
unfoldable pub minus : Table → Table → Table
minus t u = filter (λ r. not (any (same_row r) u)) t

-- RS: rows whose column c is true
unfoldable pub select : Table → ℕ → Table
select t c = filter (λ (r : Row). same (cell r c) true_cell) t

-- RJ: for each row of t, each row of u with equal cells; both rows joined
unfoldable pub join : Table → ℕ → Table → ℕ → Table
join t c u d = gather (λ (r : Row). map (λ (s : Row). r ++ s) (filter (λ (s : Row). same (cell r c) (cell s d)) u)) t

-- RN: rows in rising order by the keys, ties as they stood
unfoldable pub rising : List ℕ → Row → Row → Bool
rising [] r s = false
rising (k ∷ ks) r s = before (cell r k) (cell s k) || (same (cell r k) (cell s k) && rising ks r s)

-- a column counting from 1 within equal groups: one more than the earlier rows of the group
unfoldable pub numbered_after : (Row → Row → Bool) → Table → Table → Table
numbered_after group earlier [] = []
numbered_after group earlier (r ∷ rs) =
    (r ++ (pos (suc (count (group r) earlier)) ∷ [])) ∷ numbered_after group (r ∷ earlier) rs

-- by column p, then the keys; 255: no p, and the whole table is one group
unfoldable pub in_group : ℕ → Row → Row → Bool
in_group p r s = eqb p 255 || same (cell r p) (cell s p)

unfoldable pub number : Table → ℕ → List ℕ → Table
number t p ks = numbered_after (in_group p) [] (sort (rising (cond (eqb p 255) ks (p ∷ ks))) t)

-- RF: adds a function of each row
unfoldable pub added : (Row → Attempt ℤ) → Table → Attempt Table
added f t = each (λ r. attempt (f r) (λ z. gives ((r ++ (z ∷ [])) ∷ []))) t

-- groups by first appearance
unfoldable pub groups : Table → ℕ → List ℤ
groups t c = firsts same (column t c)

unfoldable pub group_of : Table → ℕ → ℤ → Table
group_of t c x = filter (λ (r : Row). same x (cell r c)) t

-- RC: (cell, rows holding it)
unfoldable pub counts : Table → ℕ → Table
counts t c = map (λ x. x ∷ pos (length (group_of t c x)) ∷ []) (groups t c)

-- RE: (column 0, truth of its group), the group's items by column 1, ties as they stood
unfoldable pub items_in_order : Table → List ℤ
items_in_order t = column (sort (rising (1 ∷ [])) t) 2

unfoldable pub truths : World → Table → Attempt Table
truths w t =
    each (λ x. attempt (w.truth (items_in_order (group_of t 0 x))) (λ b. gives ((x ∷ truth_cell b ∷ []) ∷ [])))
    (groups t 0)

-- RK: t; fails if a cell of column c occurs twice
unfoldable pub once : List ℤ → Bool
once [] = true
once (x ∷ xs) = not (any (same x) xs) && once xs

-- RX: per different column 0, the step's nodes from column 1, each once, by rising rank
unfoldable pub steps : World → Axis → Test → Table → Attempt Table
steps w axis test t =
    each (λ x. attempt (w.step axis test (column (group_of t 0 x) 1)) (λ ys. gives (map (λ y. x ∷ y ∷ []) ys)))
    (groups t 0)

-- RO: adds the root cell; fails if t has a row and there is no fragment k
unfoldable pub rooted : World → Table → ℕ → Attempt Table
rooted w t k = added (λ r. w.root k) t

abbrev pub table_of : List Table → ℕ → Table
table_of ts t = get_or ts t []

unfoldable pub make : World → Op → List Table → Attempt Table
make w RT ts = gives ((pos 1 ∷ []) ∷ [])
make w (RA t z) ts = gives (attach (table_of ts t) z)
make w (RP t cs) ts = gives (project (table_of ts t) cs)
make w (RU t u) ts = gives (table_of ts t ++ table_of ts u)
make w (RD t u) ts = gives (minus (table_of ts t) (table_of ts u))
make w (RS t c) ts = gives (select (table_of ts t) c)
make w (RJ t c u d) ts = gives (join (table_of ts t) c (table_of ts u) d)
make w (RN t p ks) ts = gives (number (table_of ts t) p ks)
make w (RF t f c d) ts = added (λ r. w.arith f (cell r c) (cell r d)) (table_of ts t)
make w (RV t c) ts = added (λ r. w.value (cell r c)) (table_of ts t)
make w (RC t c) ts = gives (counts (table_of ts t) c)
make w (RE t) ts = truths w (table_of ts t)
make w (RK t c) ts = provided (once (column (table_of ts t) c)) (gives (table_of ts t))
make w (RX t axis test) ts = steps w axis test (table_of ts t)
make w (RO t k) ts = rooted w (table_of ts t) k
