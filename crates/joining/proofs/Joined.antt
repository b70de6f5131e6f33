-- Rows of two tables joined (RJ).
--     pair_test            the test, made on the cells
--     pair_full, pair_laid the two rows laid behind each other
--     each_join            each row of a table, where it joins
--     join_same            rows that stand below what is laid are joined as they were
use Rattle.std.specs.Prelude.{Ok, Err}
use Prim.Native.Nat.{ℕ, ◌+◌, ◌≤◌, ◌<◌}
use mathlib.Core.Path.{◌≡◌, refl, sym, ap, ap₂, ◌∙◌}
use mathlib.Core.List.{List, [], ◌∷◌, ◌++◌, map}
use mathlib.Core.Bool.{Bool, true, false, cond}
use native.Mathlib.Omega.{arith}
use lib.IntN.{ℤ, pos}
use lib.ListN.{length, get_or, length-append}
use Rattle.cells.specs.Cell.{same}
use Rattle.laws.specs.Lists.{filter}
use Rattle.laws.specs.Rows.{row, laid}
use Rattle.laws.proofs.Rows.{length_row, row_laid, laid_more}
use Rattle.laws.specs.Attempt.{Attempt, gives, attempt, each}
use Rattle.meaning.specs.Operators.{Row, Table, cell}
use Rattle.tables.specs.declared.Unlaid.TheVariants.{Full}
use Rattle.tables.specs.Layout.{Owes}
use Rattle.joining.specs.Joined.{join_one}
use Rattle.tables.proofs.Promise.{one_full, one_laid}
use Rattle.tables.proofs.Reading.{cell_read}

pub pair_test :
    (xs : List ℤ) (a w k b v d : ℕ) (x y : ℤ) (t : Bool) → k < w → d < v → t ≡ same x y →
    x ≡ get_or xs (a + k) (pos 0) → y ≡ get_or xs (b + d) (pos 0) → same (cell (row xs a w) k) (cell (row xs b v) d) ≡ t
pair_test xs a w k b v d x y t h i e p q =
    ap₂ same (cell_read xs a w k h ∙ sym p) (cell_read xs b v d i ∙ sym q) ∙ sym e

module _ (room at a w b v : ℕ) (xs : List ℤ) (insideA : a + w ≤ at) (insideB : b + v ≤ at)
    (inside : at ≤ length xs) where
  length_pair : length (row xs a w ++ row xs b v) ≡ w + v
  length_pair =
      length-append (row xs a w) (row xs b v)
      ∙ ap₂ ◌+◌ (length_row xs a w (omega arith)) (length_row xs b v (omega arith))

  pub pair_full : room < at + (w + v) → Owes room at (w + v) (gives ((row xs a w ++ row xs b v) ∷ [])) xs xs (Err Full)
  pair_full h = one_full room at (w + v) (row xs a w ++ row xs b v) xs length_pair h

  pub pair_laid :
      (ys zs : List ℤ) → at + (w + v) ≤ room → room ≤ length xs →
      ys ≡ laid xs at (row xs a w) → zs ≡ laid ys (at + w) (row ys b v) →
      Owes room at (w + v) (gives ((row xs a w ++ row xs b v) ∷ [])) xs zs (Ok 1)
  pair_laid ys zs h g e f =
      let r = row xs a w in
      let long : length r ≡ w = length_row xs a w (omega arith) in
      let below : row ys b v ≡ row xs b v = ap (λ (l : List ℤ). row l b v) e ∙ row_laid xs at r b v insideB inside in
      one_laid room at (w + v) (r ++ row xs b v) xs length_pair zs h
      (f
      ∙ ap₂ (λ (l q : List ℤ). laid l (at + w) q) e below
      ∙ ap (λ (m : ℕ). laid (laid xs at r) (at + m) (row xs b v)) (sym long)
      ∙ laid_more xs at r (row xs b v) (omega arith))

pub each_join : (r : Row) (k d : ℕ) (t : Table)
    → each (join_one r k d) t ≡ gives (map (λ (q : Row). r ++ q) (filter (λ (q : Row). same (cell r k) (cell q d)) t))
unfolding each attempt filter join_one
each_join r k d [] = refl
each_join r k d (q ∷ t) = rw (each_join r k d t) (by_test (same (cell r k) (cell q d)))
  where
    by_test : (b : Bool)
        → ◌≡◌ {A = Attempt Table} (gives (cond b ((r ++ q) ∷ []) [] ++ map (λ (q : Row). r ++ q)
        (filter (λ (q : Row). same (cell r k) (cell q d)) t)))
        (gives (map (λ (q : Row). r ++ q) (cond b (q ∷ filter (λ (q : Row). same (cell r k) (cell q d)) t)
        (filter (λ (q : Row). same (cell r k) (cell q d)) t))))
    by_test true = refl
    by_test false = refl

pub join_same :
    (xs ys : List ℤ) (at : ℕ) (vs : List ℤ) (a w k b v d : ℕ) → ys ≡ laid xs at vs → a + w ≤ at → b + v ≤ at
    → at ≤ length xs →
    join_one (row xs a w) k d (row xs b v) ≡ join_one (row ys a w) k d (row ys b v)
join_same xs ys at vs a w k b v d e h i g =
    ap₂ (λ (r q : Row). join_one r k d q)
    (sym (row_laid xs at vs a w h g) ∙ ap (λ (l : List ℤ). row l a w) (sym e))
    (sym (row_laid xs at vs b v i g) ∙ ap (λ (l : List ℤ). row l b v) (sym e))
