-- Tables in the cells: one that was laid stands there, others stand as they did.
--     flat_rows_at, wide_rows_at     the cells of a table that stands, end to end
--     rows_at_flat                  a table that was laid stands there
--     laid_stands                  what an operator made stands where it laid it
--     laid_fits, length_stands     .. within the room, and the cells stay as many
--     inside_up                    a table that stands below a cell stands below a later one
--     table_below, others_stand    a table stands as it did before rows were laid behind
use Rattle.std.specs.Prelude.{Ok}
use Prim.Native.Nat.{ℕ, zero, suc, ◌+◌, ◌*◌, ◌≤◌}
use mathlib.Core.Path.{◌≡◌, refl, sym, ap, ap₂, ◌∙◌}
use mathlib.Core.List.{List, [], ◌∷◌, ◌++◌, append_assoc}
use native.Mathlib.Omega.{arith}
use native.Mathlib.Nat.{suc-mul, zero-mul}
use lib.IntN.{ℤ}
use lib.ListN.{length, take, drop, length-append}
use lib.Seq.{take-add, drop-drop, take_at, drop_at, length-take-le}
use Rattle.laws.specs.Lists.{gather}
use Rattle.laws.specs.Rows.{row, rows_at, laid, flat}
use Rattle.laws.proofs.Rows.{length_row, length_laid, rows_at_laid}
use Rattle.laws.specs.Attempt.{Attempt, gives}
use Rattle.meaning.specs.Operators.{Table}
use Rattle.tables.specs.declared.Stand.{Stand}
use Rattle.tables.specs.Layout.{table_at, Inside, Wide, Owes}
use Rattle.tables.proofs.Promise.{length_flat}

pub wide_rows_at : (xs : List ℤ) (a n w : ℕ) → a + n * w ≤ length xs → Wide w (rows_at xs a n w)
unfolding rows_at Wide
wide_rows_at xs a zero w h = tt
wide_rows_at xs a (suc n) w h =
    let e : suc n * w ≡ n * w + w = suc-mul n w in
    (length_row xs a w (omega arith), wide_rows_at xs (a + w) n w (omega arith))

pub flat_rows_at : (xs : List ℤ) (a n w : ℕ) → flat (rows_at xs a n w) ≡ row xs a (n * w)
unfolding flat gather rows_at row
flat_rows_at xs a zero w = rw zero-mul
flat_rows_at xs a (suc n) w =
    let e : suc n * w ≡ w + n * w = omega (arith, suc-mul n w) in
    ap (row xs a w ++◌) (flat_rows_at xs (a + w) n w)
    ∙ ap (λ (l : List ℤ). take w (drop a xs) ++ take (n * w) l) (sym (drop-drop w a xs))
    ∙ sym (take-add w (n * w) (drop a xs))
    ∙ ap (λ (m : ℕ). take m (drop a xs)) (sym e)

-- the rows of cells that stand end to end
rows_of_lem : (w : ℕ) (t : Table) (front back : List ℤ) (m : ℕ) → length front ≡ m → Wide w t
    → rows_at (front ++ (flat t ++ back)) m (length t) w ≡ t
unfolding rows_at Wide flat gather row
rows_of_lem w [] front back m e h = refl
rows_of_lem w (r ∷ t) front back m e h =
    let regroup : front ++ ((r ++ flat t) ++ back) ≡ (front ++ r) ++ (flat t ++ back) =
    ap (front ++◌) (append_assoc r (flat t) back) ∙ sym (append_assoc front r (flat t ++ back)) in
    let here : row (front ++ ((r ++ flat t) ++ back)) m w ≡ r =
    ap (take w) (drop_at front ((r ++ flat t) ++ back) m e ∙ append_assoc r (flat t) back)
    ∙ take_at r (flat t ++ back) w h.0 in
    let long : length (front ++ r) ≡ m + w = length-append front r ∙ ap₂ ◌+◌ e h.0 in
    ap₂ ◌∷◌ here
    (ap (λ (l : List ℤ). rows_at l (m + w) (length t) w) regroup ∙ rows_of_lem w t (front ++ r) back (m + w) long h.1)

pub rows_at_flat :
    (xs : List ℤ) (at w : ℕ) (t : Table) → at ≤ length xs → Wide w t
    → rows_at (laid xs at (flat t)) at (length t) w ≡ t
unfolding laid
rows_at_flat xs at w t h k = rows_of_lem w t (take at xs) (drop (at + length (flat t)) xs) at (length-take-le at xs h) k

pub inside_up : (low top : ℕ) (u : Stand) → low ≤ top → Inside low u → Inside top u
unfolding Inside
inside_up low top u h k = omega arith

module _ (xs ys : List ℤ) (at : ℕ) (vs : List ℤ) (over : ys ≡ laid xs at vs) (inside : at ≤ length xs) where
  pub table_below : (u : Stand) → Inside at u → table_at ys u ≡ table_at xs u
  unfolding table_at Inside
  table_below u h =
      ap (λ (l : List ℤ). rows_at l u.at u.rows u.width) over
      ∙ rows_at_laid xs at vs u.at u.rows u.width h inside

pub laid_fits :
    (room at w : ℕ) (m : Attempt Table) (xs ys : List ℤ) (n : ℕ) → Owes room at w m xs ys (Ok n) → at + n * w ≤ room
unfolding Owes
laid_fits room at w m xs ys n o = o.fits

module _ (room at w : ℕ) (m : Attempt Table) (xs ys : List ℤ) (n : ℕ) (inside : room ≤ length xs)
    (o : Owes room at w m xs ys (Ok n)) where
  pub laid_stands : m ≡ gives (rows_at ys at n w)
  unfolding Owes
  laid_stands =
      let f = o.fits in
      o.made_is
      ∙ ap gives
      (sym (rows_at_flat xs at w o.table (omega arith) o.wide)
      ∙ ap₂ (λ (l : List ℤ) (k : ℕ). rows_at l at k w) (sym o.cells_are) o.rows_are)

  pub others_stand : (s : Stand) → Inside at s → table_at ys s ≡ table_at xs s
  unfolding Owes
  others_stand s h =
      let f = o.fits in
      table_below xs ys at (flat o.table) o.cells_are (omega arith) s h

  pub length_stands : length ys ≡ length xs
  unfolding Owes
  length_stands =
      let f = o.fits in
      let e = length_flat w o.table o.wide in
      ap length o.cells_are
      ∙ length_laid xs at (flat o.table) (omega (arith, ap (λ (k : ℕ). k * w) o.rows_are))
