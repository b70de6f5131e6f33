-- Cells that occur once (RK).
--     once_again, once_next, once_none     the cell of a row stands again further down, or does not
--     below_inside, below_holds            the rows below one
--     rises_once                           a column that rises holds no cell twice
use Prim.Native.Nat.{ℕ, suc, ◌+◌, ◌-◌, ◌*◌, ◌≤◌, ◌<◌}
use mathlib.Core.Path.{◌≡◌, refl, ap, ap₂, ◌∙◌}
use mathlib.Core.List.{List, [], ◌∷◌}
use mathlib.Core.Bool.{Bool, true, false, not, ◌&&◌, ◌||◌}
use lib.IntN.{ℤ, pos}
use lib.ListN.{length, drop, drop_of_length-le}
use lib.Seq.{drop-cons}
use native.Mathlib.Omega.{arith}
use native.Mathlib.Nat.{add-mul}
use Rattle.cells.specs.Cell.{same, before}
use Rattle.cells.proofs.Cells.{before_trans, before_other}
use Rattle.laws.specs.Lists.{any}
use Rattle.laws.specs.Rows.{rows_at}
use Rattle.laws.specs.Lists.{All}
use Rattle.laws.proofs.Lists.{all_map}
use Rattle.laws.proofs.Booleans.{both_true}
use Rattle.meaning.specs.Operators.{Table, column, once}
use Rattle.tables.specs.declared.Stand.{Stand}
use Rattle.tables.specs.Layout.{table_at}
use Rattle.tables.specs.Order.{cell_at, each_next, rises}
use Rattle.tables.proofs.Reading.{length_column, get_d_column, column_drop, table_from}

module _ (t : Table) (c i : ℕ) where
  module _ (h : i < length t) where
    once_split :
        once (drop i (column t c))
        ≡ (not (any (same (cell_at t c i)) (drop (i + 1) (column t c))) && once (drop (i + 1) (column t c)))
    unfolding once
    once_split =
        let next : suc i ≡ i + 1 = omega arith in
        ap once
        (drop-cons (column t c) i (pos 0) (omega (arith, length_column t c))
        ∙ ap₂ (λ (z : ℤ) (j : ℕ). z ∷ drop j (column t c)) (get_d_column t c i) next)

    pub once_again :
        any (same (cell_at t c i)) (drop (i + 1) (column t c)) ≡ true → once (drop i (column t c)) ≡ false
    once_again e = once_split ∙ ap (λ (b : Bool). not b && once (drop (i + 1) (column t c))) e

    pub once_next :
        any (same (cell_at t c i)) (drop (i + 1) (column t c)) ≡ false →
        once (drop i (column t c)) ≡ once (drop (i + 1) (column t c))
    once_next e = once_split ∙ ap (λ (b : Bool). not b && once (drop (i + 1) (column t c))) e

  pub once_none : length t ≤ i → once (drop i (column t c)) ≡ true
  unfolding once
  once_none h = ap once (drop_of_length-le (column t c) {i = i} (omega (arith, length_column t c)))

-- the rows below one
pub below_inside : (a n w i top : ℕ) → i < n → a + n * w ≤ top → a + (i + 1) * w + (n - (i + 1)) * w ≤ top
below_inside a n w i top h k =
    let e : i + 1 + (n - (i + 1)) ≡ n = omega arith in
    omega (arith, add-mul (i + 1) (n - (i + 1)) w, ap (λ (m : ℕ). m * w) e)

pub below_holds : (xs : List ℤ) (s : Stand) (c i : ℕ) (z : ℤ) → i < s.rows → z ≡ cell_at (table_at xs s) c i →
    any (same z) (column (rows_at xs (s.at + (i + 1) * s.width) (s.rows - (i + 1)) s.width) c)
    ≡ any (same (cell_at (table_at xs s) c i)) (drop (i + 1) (column (table_at xs s) c))
below_holds xs s c i z h e =
    ap₂ (λ (v : ℤ) (zs : List ℤ). any (same v) zs) e
    (ap (λ (t : Table). column t c) (table_from xs s (i + 1) (omega arith)) ∙ column_drop (table_at xs s) c (i + 1))

-- a column that rises holds no cell twice
all_after : (x : ℤ) (xs : List ℤ) → rises (x ∷ xs) ≡ true → All (λ y. before x y ≡ true) xs
unfolding rises each_next
all_after x [] e = tt
all_after x (y ∷ ys) e =
    let h = both_true (before x y) (rises (y ∷ ys)) e in
    (h.0, all_map ys (λ z k. before_trans x y z h.0 k) (all_after y ys h.1))

none_same : (x : ℤ) (xs : List ℤ) → All (λ y. before x y ≡ true) xs → any (same x) xs ≡ false
unfolding any
none_same x [] h = refl
none_same x (y ∷ ys) h = ap₂ ◌||◌ (before_other x y h.0) (none_same x ys h.1)

pub rises_once : (xs : List ℤ) → rises xs ≡ true → once xs ≡ true
unfolding rises each_next once any
rises_once [] e = refl
rises_once (x ∷ []) e = refl
rises_once (x ∷ y ∷ ys) e =
    ap₂ (λ (s t : Bool). not s && t) (none_same x (y ∷ ys) (all_after x (y ∷ ys) e))
    (rises_once (y ∷ ys) (both_true (before x y) (rises (y ∷ ys)) e).1)
