-- The translation rules (document 01, 'Translation') as plain functions on typed rows: the same tables in the same row
-- order as the operators make, without table numbers, and with numbers for the cells of iterations, places, counters.
-- Read as cells, a number n is the cell `pos n`, a truth its cell, an item itself; a row (i, p, z) is three cells, a
-- pair the cells of its first part, then those of its second. Each function names the operators that it stands for.
--     Triple                a row (iteration, place, item) of an expression's table
--     row i p z             the row of iteration i, place p, item z
--     iter_of, place_of, item_of     its three columns
--     Loop, Vars            a loop table: its iterations; the table of each variable
--     Sem                   what an expression does under a loop table, with the variables' tables
--     by_cell c, by_number c  a column as a key of numbering: of cells, of numbers
--     grouped c, together   the groups of numbering: by a column; the whole table
--     extended f t          each row with what f gives for it, or that f fails at one (RF, RO)
--     holding v t vars      the same variables, with table t for variable v
--     sem_l z, sem_e          QL and QB; QE
--     first_places, sem_r w k     QR: place 1 of each iteration; the root beside it
--     sides a b             QS: the rows of a with 1, then those of b with 2
--     sides_in_order, sem_s    .. numbered by iteration, side, place; the rows with their new places
--     all_in_order a          QF: the rows of a, each with its number: the new iteration
--     items_alone, new_loop, map_of     .. the variable; the new loop; rows (outer iteration, inner iteration)
--     lifted_by m t          .. another variable, lifted by the map
--     outer_of t m           .. the body's rows with their rows of the map
--     outer_in_order, brought_back      .. numbered by outer iteration, inner iteration, place; the rows with new places
--     sem_f v body a vars    .. the whole rule
--     items_in_order t        QI: the items of one iteration, by place
--     truths_of w t          .. rows (iteration, truth)
--     then_loop t            .. the iterations that are true
--     kept_in l t            .. a variable, in the iterations of a branch
--     branches, sem_i        .. then-part, else-part; the whole rule
--     checked t             QO: t, where no iteration has two rows
--     facing a b            .. rows (iteration, place), (left, right)
--     sem_o w f a b          .. the whole rule
--     counts_of, counts_and_zeros, sem_c     QC: rows (iteration, count); zeros for the others; the rows with place 1
--     sem_d w a              QD
--     contexts, steps_of     QX: rows (iteration, item); the step's nodes of each iteration
--     nodes_in_order, sem_x    .. numbered by iteration, item; the whole rule
--     sem w q l vars        the table of a query under a loop table, or that an operator fails
--     sem_last t             the last numbering
--     sem_plan w q           the table of the whole plan
use Rattle.std.specs.Prelude.{ℕ, List, [], ◌∷◌, ◌++◌, map, Bool, true, cond, eqb, ℤ, pos, length}
use Rattle.cells.specs.Cell.{same, before}
use Rattle.codes.specs.declared.Function.{Function}
use Rattle.codes.specs.declared.Axis.{Axis}
use Rattle.codes.specs.declared.Test.{Test}
use Rattle.laws.specs.Lists.{filter}
use Rattle.laws.specs.Sorting.{sort}
use Rattle.laws.specs.Keyed.{Key, rising_by, counted, joined, numbers_in, within, without, unique}
use Rattle.laws.specs.Attempt.{Attempt, gives, attempt, provided, each}
use Rattle.meaning.specs.World.{World}
use Rattle.meaning.specs.Query.{Query, QL, QE, QR, QV, QS, QT, QF, QI, QO, QC, QD, QX}

pub record Triple : Type 0 where
  pub iter : ℕ
  pub place : ℕ
  pub item : ℤ

abbrev pub row : ℕ → ℕ → ℤ → Triple
row i p z = record { iter = i; place = p; item = z }

abbrev pub Loop : Type 0
Loop = List ℕ

abbrev pub Vars : Type 0
Vars = ℕ → List Triple

-- what an expression does under a loop table
abbrev pub Sem : Type 0
Sem = Loop → Vars → Attempt (List Triple)

abbrev pub iter_of : Triple → ℕ
iter_of r = r.iter

abbrev pub place_of : Triple → ℕ
place_of r = r.place

abbrev pub item_of : Triple → ℤ
item_of r = r.item

-- Columns as keys and as groups

abbrev pub by_cell : {A : Type 0} → (A → ℤ) → Key A
by_cell c = record { before = λ r s. before (c r) (c s); same = λ r s. same (c r) (c s) }

abbrev pub by_number : {A : Type 0} → (A → ℕ) → Key A
by_number c = by_cell (λ r. pos (c r))

abbrev pub grouped : {A : Type 0} → (A → ℕ) → A → A → Bool
grouped c r s = eqb (c r) (c s)

abbrev pub together : {A : Type 0} → A → A → Bool
together r s = true

unfoldable pub extended : {A B : Type 0} → (A → Attempt B) → List A → Attempt (List (A × B))
extended f t = each (λ r. attempt (f r) (λ z. gives ((r, z) ∷ []))) t

unfoldable pub holding : ℕ → List Triple → Vars → Vars
holding v t vars u = cond (eqb u v) t (vars u)

-- QL, QB: RA, RA
unfoldable pub sem_l : ℤ → Loop → List Triple
sem_l z l = map (λ i. row i 1 z) l

-- QE: RA, RA; RD of that with itself leaves nothing
unfoldable pub sem_e : Loop → List Triple
sem_e l = []

-- QR: RA
unfoldable pub first_places : Loop → List (ℕ × ℕ)
first_places l = map (λ i. (i, 1)) l

-- .. RO: a row ((iteration, place), root) is the row (iteration, place, root)
unfoldable pub sem_r : World → ℕ → Loop → Attempt (List Triple)
sem_r w k l =
    attempt (extended (λ r. w.root k) (first_places l)) (λ t. gives (map (λ r. row r.0.0 r.0.1 r.1) t))

-- QS: RA a, RA b, RU
unfoldable pub sides : List Triple → List Triple → List (Triple × ℕ)
sides a b = map (λ r. (r, 1)) a ++ map (λ r. (r, 2)) b

-- .. RN by iteration, then side, then place
unfoldable pub sides_in_order : List (Triple × ℕ) → List ((Triple × ℕ) × ℕ)
sides_in_order t =
    counted
    (grouped (λ r. r.0.iter))
    (by_number (λ r. r.0.iter) ∷ by_number (λ r. r.1) ∷ by_number (λ r. r.0.place) ∷ [])
    t

-- .. RP
unfoldable pub sem_s : List Triple → List Triple → List Triple
sem_s a b = map (λ r. row r.0.0.iter r.1 r.0.0.item) (sides_in_order (sides a b))

-- QF: RN by iteration, then place, over the whole table: each row's number is a new iteration
unfoldable pub all_in_order : List Triple → List (Triple × ℕ)
all_in_order a = counted together (by_number iter_of ∷ by_number place_of ∷ []) a

-- .. RA, RP: the variable
unfoldable pub items_alone : List (Triple × ℕ) → List Triple
items_alone t = map (λ r. row r.1 1 r.0.item) t

-- .. RP: the new loop
unfoldable pub new_loop : List (Triple × ℕ) → Loop
new_loop t = map (λ r. r.1) t

-- .. RP: the map, rows (outer iteration, inner iteration)
unfoldable pub map_of : List (Triple × ℕ) → List (ℕ × ℕ)
map_of t = map (λ r. (r.0.iter, r.1)) t

-- .. for each other variable: RJ with the map's outer, RP
unfoldable pub lifted_by : List (ℕ × ℕ) → List Triple → List Triple
lifted_by m t = map (λ r. row r.1.1 r.0.place r.0.item) (joined iter_of (λ s. s.0) t m)

-- .. after the body: RJ with the map's inner
unfoldable pub outer_of : List Triple → List (ℕ × ℕ) → List (Triple × (ℕ × ℕ))
outer_of t m = joined iter_of (λ s. s.1) t m

-- .. RN by outer, then inner iteration, then place
unfoldable pub outer_in_order : List (Triple × (ℕ × ℕ)) → List ((Triple × (ℕ × ℕ)) × ℕ)
outer_in_order t =
    counted
    (grouped (λ r. r.1.0))
    (by_number (λ r. r.1.0) ∷ by_number (λ r. r.0.iter) ∷ by_number (λ r. r.0.place) ∷ [])
    t

-- .. RP
unfoldable pub brought_back : List Triple → List (ℕ × ℕ) → List Triple
brought_back t m = map (λ r. row r.0.1.0 r.1 r.0.0.item) (outer_in_order (outer_of t m))

-- every other variable is lifted; the operators lift those that are free in the body, and no other is looked at
unfoldable pub sem_f : ℕ → Sem → List Triple → Vars → Attempt (List Triple)
sem_f v body a vars =
    let n = all_in_order a in
    attempt
    (body (new_loop n) (holding v (items_alone n) (λ u. lifted_by (map_of n) (vars u))))
    (λ t. gives (brought_back t (map_of n)))

-- QI: RE; rows (iteration, truth)
unfoldable pub items_in_order : List Triple → List ℤ
items_in_order t = map item_of (sort (rising_by (by_number place_of ∷ [])) t)

unfoldable pub truths_of : World → List Triple → Attempt (List (ℕ × Bool))
truths_of w t =
    each (λ i. attempt (w.truth (items_in_order (within iter_of i t))) (λ b. gives ((i, b) ∷ []))) (numbers_in iter_of t)

-- .. RS, RP: the then-loop; RD: the else-loop
unfoldable pub then_loop : List (ℕ × Bool) → Loop
then_loop t = map (λ r. r.0) (filter (λ r. r.1) t)

-- .. for each variable of a branch: RJ with the branch's loop, RP
unfoldable pub kept_in : Loop → List Triple → List Triple
kept_in l t = map (λ r. r.0) (joined iter_of (λ i. i) t l)

-- .. then-part, else-part, RU; l is the loop, m the then-loop
unfoldable pub branches : Sem → Sem → Loop → Vars → Loop → Attempt (List Triple)
branches a b l vars m =
    attempt (a m (λ u. kept_in m (vars u)))
    (λ x. attempt (b (without l m) (λ u. kept_in (without l m) (vars u))) (λ y. gives (x ++ y)))

unfoldable pub sem_i : World → Sem → Sem → Loop → Vars → List Triple → Attempt (List Triple)
sem_i w a b l vars c = attempt (truths_of w c) (λ t. branches a b l vars (then_loop t))

-- QO: RK a, RK b
unfoldable pub checked : List Triple → Attempt (List Triple)
checked t = provided (unique (map iter_of t)) (gives t)

-- .. RJ, RP: rows (iteration, place, left, right), the last two as a pair
unfoldable pub facing : List Triple → List Triple → List ((ℕ × ℕ) × (ℤ × ℤ))
facing a b = map (λ r. ((r.0.iter, r.0.place), (r.0.item, r.1.item))) (joined iter_of iter_of a b)

-- .. RF, RP
unfoldable pub sem_o : World → Function → List Triple → List Triple → Attempt (List Triple)
sem_o w f a b =
    attempt (checked a)
    (λ x. attempt (checked b)
    (λ y. attempt (extended (λ r. w.arith f r.1.0 r.1.1) (facing x y))
    (λ t. gives (map (λ r. row r.0.0.0 r.0.0.1 r.1) t))))

-- QC: RC; rows (iteration, number of its rows)
unfoldable pub counts_of : List Triple → List (ℕ × ℕ)
counts_of t = map (λ i. (i, length (within iter_of i t))) (numbers_in iter_of t)

-- .. RP, RD, RA, RU: counts first, then zeros
unfoldable pub counts_and_zeros : Loop → List (ℕ × ℕ) → List (ℕ × ℕ)
counts_and_zeros l t = t ++ map (λ i. (i, 0)) (without l (map (λ r. r.0) t))

-- .. RA, RP
unfoldable pub sem_c : Loop → List Triple → List Triple
sem_c l a = map (λ r. row r.0 1 (pos r.1)) (counts_and_zeros l (counts_of a))

-- QD: RF 7; RP
unfoldable pub sem_d : World → List Triple → Attempt (List Triple)
sem_d w a =
    attempt (extended (λ r. w.value r.item) a) (λ t. gives (map (λ r. row r.0.iter r.0.place r.1) t))

-- QX: RP; rows (iteration, item)
unfoldable pub contexts : List Triple → List (ℕ × ℤ)
contexts t = map (λ r. (r.iter, r.item)) t

-- .. RX
unfoldable pub steps_of : World → Axis → Test → List (ℕ × ℤ) → Attempt (List (ℕ × ℤ))
steps_of w axis test t =
    each
    (λ i. attempt (w.step axis test (map (λ r. r.1) (within (λ r. r.0) i t))) (λ ys. gives (map (λ y. (i, y)) ys)))
    (numbers_in (λ r. r.0) t)

-- .. RN by iteration, then item; RP
unfoldable pub nodes_in_order : List (ℕ × ℤ) → List ((ℕ × ℤ) × ℕ)
nodes_in_order t = counted (grouped (λ r. r.0)) (by_number (λ r. r.0) ∷ by_cell (λ r. r.1) ∷ []) t

unfoldable pub sem_x : World → Axis → Test → List Triple → Attempt (List Triple)
sem_x w axis test a =
    attempt (steps_of w axis test (contexts a))
    (λ t. gives (map (λ r. row r.0.0 r.1 r.0.1) (nodes_in_order t)))

-- operands come first, in order
unfoldable pub sem : World → Query → Loop → Vars → Attempt (List Triple)
sem w (QL at z) l vars = gives (sem_l z l)
sem w (QE at) l vars = gives (sem_e l)
sem w (QR at k) l vars = sem_r w k l
sem w (QV at v) l vars = gives (vars v)
sem w (QS at a b) l vars = attempt (sem w a l vars) (λ x. attempt (sem w b l vars) (λ y. gives (sem_s x y)))
sem w (QT at v a b) l vars = attempt (sem w a l vars) (λ x. sem w b l (holding v x vars))
sem w (QF at v a b) l vars = attempt (sem w a l vars) (λ x. sem_f v (sem w b) x vars)
sem w (QI at c a b) l vars = attempt (sem w c l vars) (λ x. sem_i w (sem w a) (sem w b) l vars x)
sem w (QO at f a b) l vars = attempt (sem w a l vars) (λ x. attempt (sem w b l vars) (λ y. sem_o w f x y))
sem w (QC at a) l vars = attempt (sem w a l vars) (λ x. gives (sem_c l x))
sem w (QD at a) l vars = attempt (sem w a l vars) (λ x. sem_d w x)
sem w (QX at axis test a) l vars = attempt (sem w a l vars) (λ x. sem_x w axis test x)

-- last: RN by iteration, then place; RP
unfoldable pub sem_last : List Triple → List Triple
sem_last t =
    map (λ r. row r.0.iter r.1 r.0.item)
    (counted (grouped iter_of) (by_number iter_of ∷ by_number place_of ∷ []) t)

-- under the first loop table, RT, with no variable bound
unfoldable pub sem_plan : World → Query → Attempt (List Triple)
sem_plan w q = attempt (sem w q (1 ∷ []) (λ v. [])) (λ t. gives (sem_last t))
