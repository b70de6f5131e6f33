-- Rows joined one after another (RJ).
--     join_each                RJ does so for each row
--     joined_laid              it makes of a row what it made before rows were laid behind
--     joined_part              a part that narrows the table joins alike
--     part_inside              that part stands where the table stands
use Prim.Native.Nat.{ℕ, ◌+◌, ◌-◌, ◌*◌, ◌≤◌}
use mathlib.Core.Path.{◌≡◌, sym, ap, ap₂, ◌∙◌}
use mathlib.Core.List.{List, ◌++◌, map}
use native.Mathlib.Omega.{arith}
use native.Mathlib.Nat.{add-mul, mul-le-mul_right}
use lib.IntN.{ℤ}
use lib.ListN.{length}
use Rattle.cells.specs.Cell.{same}
use Rattle.laws.specs.Lists.{filter}
use Rattle.laws.specs.Rows.{row, rows_at, laid}
use Rattle.laws.proofs.Rows.{row_laid}
use Rattle.laws.specs.Attempt.{Attempt, gives, each}
use Rattle.meaning.specs.Operators.{Row, Table, cell, join}
use Rattle.tables.specs.declared.Stand.{Stand}
use Rattle.tables.specs.Layout.{table_at, Inside}
use Rattle.tables.specs.Laying.{Settled}
use Rattle.laws.proofs.Filters.{each_gather}
use Rattle.tables.proofs.Standing.{table_below}
use Rattle.searching.specs.declared.Part.{Part}
use Rattle.joining.specs.Joined.{joined_row}
use Rattle.searching.specs.Narrowed.{Narrows}

module _ (xs : List ℤ) (u : Stand) (c d : ℕ) (t : Table) where
  pub join_each : gives (join t c (table_at xs u) d) ≡ each (joined_row xs u c d) t
  unfolding joined_row join
  join_each =
      sym
      (each_gather (λ (r : Row). map (λ (q : Row). r ++ q)
      (filter (λ (q : Row). same (cell r c) (cell q d)) (table_at xs u))) t)

  pub join_settled : Settled (each (joined_row xs u c d) t)
  unfolding Settled
  join_settled = (join t c (table_at xs u) d, sym join_each)

module _ (xs ys : List ℤ) (at : ℕ) (vs : List ℤ) (over : ys ≡ laid xs at vs) (inside : at ≤ length xs) where
  pub joined_laid : (u : Stand) (c d a w : ℕ) → a + w ≤ at → Inside at u
      → joined_row xs u c d (row xs a w) ≡ joined_row ys u c d (row ys a w)
  unfolding joined_row
  joined_laid u c d a w h k =
      ap₂ (λ (t : Table) (r : Row). gives (map (λ (q : Row). r ++ q)
      (filter (λ (q : Row). same (cell r c) (cell q d)) t)))
      (sym (table_below xs ys at vs over inside u k))
      (sym (row_laid xs at vs a w h inside) ∙ ap (λ (l : List ℤ). row l a w) (sym over))

module _ (a n w lo hi top : ℕ) (h : lo ≤ hi) (k : hi ≤ n) (l : a + n * w ≤ top) where
  pub part_inside : a + lo * w + (hi - lo) * w ≤ top
  part_inside =
      let e : lo + (hi - lo) ≡ hi = omega arith in
      omega (arith, add-mul lo (hi - lo) w, ap (λ (m : ℕ). m * w) e, mul-le-mul_right w k)

pub joined_part : (xs : List ℤ) (u : Stand) (d : ℕ) (p : Part) (r : Row) (c : ℕ) → Narrows xs u d (cell r c) p
    → ◌≡◌ {A = Attempt Table}
    (gives (map (λ (q : Row). r ++ q) (filter (λ (q : Row). same (cell r c) (cell q d)) (table_at xs u))))
    (gives
    (map (λ (q : Row). r ++ q)
    (filter (λ (q : Row). same (cell r c) (cell q d))
    (rows_at xs (u.at + p.start * u.width) (p.end - p.start) u.width))))
joined_part xs u d p r c h = ap (λ (t : Table). gives (map (λ (q : Row). r ++ q) t)) h.joins_alike
